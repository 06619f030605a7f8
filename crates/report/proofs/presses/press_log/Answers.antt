use Rattle.std.proofs.Common.{◌≡◌, ◌≤◌, List, ℕ, length, vec_items, rc_value, ap, ap₂, ◌∙◌, arith}
use Rattle.rulefile.specs.declared.files.RuleFile.{RuleFile}
use Rattle.rulefile.specs.Answers.{file_of}
use Rattle.scales.specs.declared.cost.LevelCost.{LevelCost}
use Rattle.scales.specs.Levels.{levels_of}
use Rattle.orders.specs.Models.{room_of}
use Rattle.report.specs.Logs.{calls_for, log_text}
use Rattle.report.specs.Presses.{not_dearer, IsPressReport, PressReport}
use Rattle.report.proofs.Told.{below_told}
use Rattle.report.proofs.Lengths.{lines_short}
use Rattle.report.proofs.PressLines.{made_press_told, press_one, press_report}
use Rattle.report.proofs.presses.press_log.Goals as goal

pressing : (file : RuleFile) (lines : List ℕ) → IsPressReport (file_of file) lines → PressReport (file_of file) lines
pressing file lines l = record {
  meaning = l;
  short = omega (arith, ap length l.printed, lines_short file (not_dearer (file_of file) l.held));
  only = λ other o. press_one (file_of file) other lines o l;
  report = λ other r. press_report (file_of file) lines other l r;
}

pub returns : goal.returns
returns c =
    let file = rc_value c.args.file.now in
    let log = c.in_ok-log.log in
    let made = c.in_ok-log.ensures in
    let made_calls = c.in_ok-calls.calls in
    let judge = c.in_ok-judge.judge in
    let scale = c.in_ok-scale.scale in
    let calls = c.as_slice-2.result.now in
    let acts = c.as_slice.result.now in
    let called : calls ≡ calls_for acts = cc (c.in_ok-calls.ensures, c.as_slice-2.ensures.value) in
    let enough : length calls ≤ room_of log =
    let many = ap length c.as_slice-2.ensures.value in
    omega (arith, made_calls.ok.0, c.len.ensures, made.len, made.capacity) in
    let costs = c.cost.ensures.value ∙ ap₂ (λ f z. (levels_of f.wishes).cost z) c.in_ok-scale.ensures.levels (ap (λ (f : RuleFile). f.house) c.deref.ensures) in
    let ceiling = ap₂ (λ (cost : LevelCost) (distance : ℕ). (cost, distance)) costs c.from.ensures in
    pressing file (log_text (vec_items c.conduct_below.new.log))
    (made_press_told (file_of file) (file_of (rc_value judge.first.file)) (file_of (rc_value judge.second.file)) (file_of (rc_value scale.first.file)) scale.then.house _ acts _
    c.in_ok-judge.ensures.book c.in_ok-judge.ensures.list c.in_ok-scale.ensures.levels c.in_ok-scale.ensures.house ceiling (cc)
    (below_told (room_of log) acts calls (vec_items log) (vec_items c.conduct_below.new.log) made.items called enough _ _ _ c.conduct_below.ensures.log))
