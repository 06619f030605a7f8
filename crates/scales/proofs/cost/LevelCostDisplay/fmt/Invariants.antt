use Rattle.std.proofs.Common.{◌∷◌, take, slice_index_or}
use Rattle.std.specs.Prelude.{pos}
use Rattle.std.specs.Fmt.{HasWritten, IsPlainFormatter}
use Rattle.scales.specs.Words.{cost_words}
use Rattle.scales.proofs.cost.LevelCostDisplay.fmt.Given as goal

abbrev pub invariant-loop-sum : goal.invariant-loop-sum
invariant-loop-sum g l =
    IsPlainFormatter l.fn.f → HasWritten g.W.Write.write_str_gives l.fn.f (cost_words (slice_index_or l.self.levels 0 (pos 0) ∷ take l.sum-index l.rest)) l.f
