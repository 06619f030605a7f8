use Rattle.std.specs.Fmt.{signed_decimal}
use Rattle.scales.specs.Wishes.{top, down_from, cost_at}
use Rattle.report.specs.Lines.{spaced}
use Rattle.report.proofs.Pieces.{Left}
use Rattle.report.proofs.Texts.{levels_left}
use Rattle.report.proofs.writing.Writer.levels.Given as goal

-- the costs from this level down are left
abbrev pub invariant-loop-level : goal.invariant-loop-level
invariant-loop-level l = Left l.initial.self (spaced signed_decimal (down_from top (cost_at l.cost.levels))) l.self (levels_left l.cost.levels l.level)
