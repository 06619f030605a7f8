-- The cheapest sheet, and which of two answers costs more.
use Rattle.std.specs.Prelude.{◌≡◌, true, false, Some, None, Option}
use Rattle.sheets.specs.Sheets.{Sheet, Earlier}
use Rattle.sheets.specs.Judging.{Judging}
use Rattle.sheets.specs.Scaling.{Scaling}

module _ {C : Type 0} (j : Judging) (s : Scaling C) where
  -- the sheet z, with its cost, is allowed; every other allowed sheet costs at least as much, and each earlier one more
  pub record Cheapest (z : Sheet) (cost : C) : Type 0 where
    pub allowed : j.allows z
    pub its_cost : cost ≡ s.cost z
    pub least : (y : Sheet) → j.allows y → s.below (s.cost y) cost ≡ false
    pub first : (y : Sheet) → j.allows y → Earlier y z → s.below cost (s.cost y) ≡ true

  -- the answer is such a sheet, or no sheet where none is allowed
  abbrev pub Best : Option (Sheet × C) → Type 0
  Best None = (z : Sheet) → j.allows z → ⊥
  Best (Some answer) = Cheapest answer.0 answer.1

-- answer a costs at most what answer b does; no sheet ranks above every cost
abbrev pub CostsAtMost : {C : Type 0} → Scaling C → Option (Sheet × C) → Option (Sheet × C) → Type 0
CostsAtMost s None None = Unit {0}
CostsAtMost s None (Some b) = ⊥
CostsAtMost s (Some a) None = Unit {0}
CostsAtMost s (Some a) (Some b) = s.below b.1 a.1 ≡ false
