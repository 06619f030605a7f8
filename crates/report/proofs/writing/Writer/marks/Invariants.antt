use Rattle.std.proofs.Common.{decimal}
use Rattle.report.specs.Lines.{spaced, marks}
use Rattle.report.proofs.Pieces.{Left}
use Rattle.report.proofs.Texts.{marks_left}
use Rattle.report.proofs.writing.Writer.marks.Given as goal

-- the marks from this one up are left
abbrev pub invariant-loop-mark : goal.invariant-loop-mark
invariant-loop-mark l = Left l.initial.self (spaced decimal (marks l.sheet)) l.self (marks_left l.sheet l.mark)
