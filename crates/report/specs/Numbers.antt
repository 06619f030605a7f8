-- The number of the refusal.
use Rattle.std.specs.Prelude.{ℕ}
use Rattle.report.specs.declared.refusals.Refusal.{Refusal}
use Rattle.report.specs.declared.refusals.Refusal.TheVariants.{BufferSmall}

abbrev pub number : Refusal → ℕ
number BufferSmall = 31
