use Rattle.std.proofs.Common.{rc_value, sym, subst, rules}
use Rattle.rulefile.specs.Answers.{file_of}
use Rattle.report.specs.Logs.{log_text}
use Rattle.report.specs.Presses.{PressReport}
use Rattle.report.proofs.Buffers.{lines_written}
use Rattle.report.proofs.presses.press.Goals as goal

pub returns : goal.returns
returns c =
    let start = c.new-lines.ensures in
    let f = file_of (rc_value c.args.file.now) in
    lines_written (PressReport f) c.args.out.now (log_text c.as_slice.result.now) _ c.len.result c.new-lines.result _ start.none start.bytes c.if-out-lt-LEAST_BUFFER.false
    (subst (λ l. PressReport f (log_text l)) (sym c.as_slice.ensures.value) c.in_ok-log.ensures)
    c.log.ensures c.len.ensures (search (rules, c.log.ensures.same_reference))
