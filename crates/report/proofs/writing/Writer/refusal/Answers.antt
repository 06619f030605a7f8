use Rattle.std.proofs.Common.{decimal, ap, ◌∙◌}
use Rattle.report.specs.Lines.{act_line}
use Rattle.report.proofs.Pieces.{writes_join, writes_like}
use Rattle.report.proofs.writing.Writer.refusal.Goals as goal

pub returns : goal.returns
unfolding act_line
returns c = writes_join c.text.ensures (writes_join (writes_like (ap decimal (c.from.ensures ∙ c.number.ensures)) c.number-2.ensures) c.text-2.ensures)
