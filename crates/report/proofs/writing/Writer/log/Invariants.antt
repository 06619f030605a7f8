use Rattle.std.proofs.Common.{drop}
use Rattle.report.specs.Logs.{log_text}
use Rattle.report.proofs.Pieces.{Left}
use Rattle.report.proofs.writing.Writer.log.Given as goal

-- the answers from this one on are left
abbrev pub invariant-loop-event : goal.invariant-loop-event
invariant-loop-event l = Left l.initial.self (log_text l.log) l.self (log_text (drop l.event-index l.log))
