-- What an advance shows, and what a settling ends on.
use Rattle.std.specs.Prelude.{◌≡◌, ℕ, false, Some, None, Option}
use Rattle.sheets.specs.Sheets.{Sheet}
use Rattle.sheets.specs.Judging.{Judging}
use Rattle.sheets.specs.Scaling.{Scaling}
use Rattle.orders.specs.Search.{Search}
use Rattle.orders.specs.declared.calls.Progress.{Progress}
use Rattle.orders.specs.Searches.{start, present_at, absent_at, Steps, Walked, Ended, priced}
use Rattle.orders.specs.Places.{DecidesFirst, Before}

-- the sheet that is shown is allowed, and has the cost that is shown
abbrev pub AllowedShown : {C : Type 0} → Judging → Scaling C → Option (Sheet × C) → Type 0
AllowedShown j s None = Unit {0}
AllowedShown j s (Some shown) = j.allows shown.0 × (shown.1 ≡ s.cost shown.0)

-- z costs no less than what is shown; where nothing is shown this is false, so `none_cheaper` then says that no such sheet
-- exists
abbrev pub NotCheaper : {C : Type 0} → Scaling C → Option (Sheet × C) → Sheet → Type 0
NotCheaper s None z = ⊥
NotCheaper s (Some shown) z = s.below (s.cost z) shown.1 ≡ false

module _ {C : Type 0} (j : Judging) (s : Scaling C) where
  -- what is shown of a search: whether it is finished, its place, and the sheet that it holds with its cost
  pub record Showing (x : Search) (p : Progress C) : Type 0 where
    pub finished : p.finished ≡ x.finished
    pub present : p.place.present ≡ present_at j.count x
    pub absent : p.place.absent ≡ absent_at j.count x
    -- the place decides the first marks below the count, as many as the search has decided
    pub place : DecidesFirst j.count x.depth p.place.present p.place.absent
    pub held : p.held ≡ priced s x.held

  -- an advance by n takes the steps, and shows the search that they lead to
  pub record Advanced (n : ℕ) (before : Search) (r : Progress C) (after : Search) : Type 0 where
    pub walked : Walked j s n before r.steps after
    pub shown : Showing after r

  -- what is shown is the cheapest of what lies before the place
  pub record ShowsCheapest (p : Progress C) : Type 0 where
    -- the sheet that is shown is allowed
    pub allowed_held : AllowedShown j s p.held
    -- no allowed sheet before the place costs less than it; with no sheet shown, none lies there
    pub none_cheaper : (z : Sheet) → j.allows z → Before p.finished p.place.present p.place.absent z → NotCheaper s p.held z

  -- a search has come to the place from the start
  abbrev pub Reached : Search → Type 0
  Reached x = (n : ℕ) × Steps j s start n x

  -- a settling takes the steps that remain, and ends on the sheet that is then held
  pub record Settling (before : Search) (held : Option Sheet) : Type 0 where
    pub last : Search
    pub ended : Ended j s before last
    pub its_held : held ≡ last.held
