-- The number of the refusal of a verdict.
use Rattle.std.specs.Prelude.{ℕ}
use Rattle.judges.specs.declared.verdicts.Refusal.{Refusal}
use Rattle.judges.specs.declared.verdicts.Refusal.TheVariants.{MarkRange}

abbrev pub number : Refusal → ℕ
number MarkRange = 21
