use Rattle.std.proofs.Common.{◌≡◌, ℕ, ◌≤◌, List, length, Ok, Err, Result, sym, refl, ap, subst, arith, rules}
use Rattle.rulefile.specs.declared.refusals.BadFile.{BadFile}
use Rattle.rulefile.specs.Answers.{file_of}
use Rattle.rulefile.specs.Model.{FileModel}
use Rattle.rulefile.specs.Format.{decode}
use Rattle.report.specs.declared.writing.Writer.{Writer}
use Rattle.report.specs.Lines.{bad_file_line}
use Rattle.report.specs.Logs.{log_text}
use Rattle.report.specs.Reports.{ReportThatFits, Report, Written}
use Rattle.report.specs.Writing.{HasRoom, Writes}
use Rattle.report.proofs.Buffers.{lines_written}
use Rattle.report.proofs.Lengths.{bad_file_short}
use Rattle.report.proofs.Only.{lines_one}
use Rattle.report.proofs.Pieces.{writes_like}
use Rattle.report.proofs.reports.report.Goals as goal
use Rattle.report.proofs.reports.report.Goals.{in-Ok+in_ok-log-in-Ok, in-Err-Refused}

-- the lines of what the bytes mean stand at the front of the buffer
report_written : (bytes before lines after : List ℕ) (n : ℕ) (file : Result FileModel BadFile) (w v : Writer) → w.len ≡ 0 → w.out.now ≡ before → 4096 ≤ length before
    → decode bytes ≡ file → ReportThatFits file lines → Writes w lines v → n ≡ v.len → after ≡ v.out.now → Written (Report bytes) before n after
report_written bytes before lines after n file w v none same room means fitting p len end =
    let f = subst (λ (x : Result FileModel BadFile). ReportThatFits x lines) (sym means) fitting in
    lines_written (Report bytes) before lines after n w v none same room
    (record { fitting = f; only = λ other o. lines_one (decode bytes) other lines o f.meaning })
    p len end

pub returns : goal.returns
returns c =
    let file = c.args.file.now in
    let before = c.args.out.now in
    let start = c.new-lines.ensures in
    elim c.match-read.branch [
      | in-Ok+in_ok-log-in-Ok w ↦
          let p = rw (← w.lines-is) at w.log.ensures in
          report_written file before (log_text w.as_slice.result.now) _ c.len.result (Ok (file_of w.in-Ok.rules)) c.new-lines.result c.match-read.lines start.none start.bytes c.if-out-lt-LEAST_BUFFER.false
          w.in-Ok.ensures.meaning
          (subst (λ l. ReportThatFits (Ok (file_of w.in-Ok.rules)) (log_text l)) (sym w.as_slice.ensures.value) w.in_ok-log-in-Ok.ensures)
          p c.len.ensures (search (rules, p.same_reference))
      | in-Err-Refused w ↦
          let bad = w.in-Err-Refused.bad in
          let p = writes_like (ap bad_file_line w.in-Err-Refused.bad-is) (rw (← w.lines-is) at w.bad_file.ensures) in
          report_written file before (bad_file_line bad) _ c.len.result (Err bad) c.new-lines.result c.match-read.lines start.none start.bytes c.if-out-lt-LEAST_BUFFER.false
          (search rules)
          (record { meaning = refl; short = bad_file_short bad })
          p c.len.ensures (search (rules, p.same_reference))
    ]

bad_file_room : (w : Writer) (bad : BadFile) (before : List ℕ) → w.len ≡ 0 → w.out.now ≡ before → 4096 ≤ length before → HasRoom w (bad_file_line bad)
bad_file_room w bad before none same room = record { room = omega (arith, bad_file_short bad, ap length same) }

pub bad_file-requires : goal.bad_file-requires
bad_file-requires c = bad_file_room c.new-lines.result _ c.args.out.now c.new-lines.ensures.none c.new-lines.ensures.bytes c.if-out-lt-LEAST_BUFFER.false
