-- The numbers of the refusals.
use Rattle.std.specs.Prelude.{ℕ}
use Rattle.orders.specs.declared.acts.Refusal.{Refusal}
use Rattle.orders.specs.declared.acts.Refusal.TheVariants.{MarkRange, MarkTaken, SheetStruck, DocketFull, DocketEmpty}

abbrev pub number : Refusal → ℕ
number MarkRange = 21
number MarkTaken = 22
number SheetStruck = 24
number DocketFull = 25
number DocketEmpty = 26
