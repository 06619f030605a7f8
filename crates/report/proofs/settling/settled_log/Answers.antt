use Rattle.std.proofs.Common.{◌≡◌, List, ℕ, Ok, Err, Result, IfOk, length, vec_items, rc_value, ap, arith}
use Rattle.rulefile.specs.declared.files.RuleFile.{RuleFile}
use Rattle.rulefile.specs.Answers.{file_of}
use Rattle.report.specs.Logs.{log_text}
use Rattle.report.specs.Reports.{IsReport, ReportThatFits}
use Rattle.report.proofs.Told.{made_told}
use Rattle.report.proofs.Lengths.{lines_short}
use Rattle.report.proofs.settling.settled_log.Goals as goal

fitting : (file : RuleFile) (lines : List ℕ) → IsReport (Ok (file_of file)) lines → ReportThatFits (Ok (file_of file)) lines
fitting file lines l = record { meaning = l; short = omega (arith, ap length l.2, lines_short file l.0) }

if_ok : {A E : Type 0} (P Q : A → Type 0) → ((x : A) → P x → Q x) → (r : Result A E) → IfOk r P → IfOk r Q
if_ok P Q to (Ok x) p = to x p
if_ok P Q to (Err e) p = p

pub returns : goal.returns
returns c =
    let file = c.args.file in
    let held = c.in_ok-shared.ensures.ok in
    let judge = c.in_ok-judge.judge in
    let scale = c.in_ok-scale.scale in
    let book : file_of (rc_value judge.first.file) ≡ file_of file = cc (c.in_ok-judge.ensures.book, held) in
    let list : file_of (rc_value judge.second.file) ≡ file_of file = cc (c.in_ok-judge.ensures.list, held) in
    let levels : file_of (rc_value scale.first.file) ≡ file_of file = cc (c.in_ok-scale.ensures.levels, held) in
    let house : scale.then.house ≡ (file_of file).house = cc (c.in_ok-scale.ensures.house, held) in
    let acts : c.as_slice.result.now ≡ (file_of file).acts = cc (c.as_slice.ensures.value, c.deref.ensures, held) in
    if_ok _ _
    (λ log told. fitting file (log_text (vec_items log))
    (made_told (file_of file) (file_of (rc_value judge.first.file)) (file_of (rc_value judge.second.file)) (file_of (rc_value scale.first.file)) scale.then.house c.as_slice.result.now (log_text (vec_items log)) book list levels house acts told))
    c.order_log.result c.order_log.ensures
