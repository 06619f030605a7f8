-- What else is said of the search of any judge and scale.
use Rattle.std.specs.Prelude.{◌≡◌, ℕ, suc, ◌-◌, ◌^◌, ◌≤◌, true, false, ◌⊎◌, Some}
use Rattle.sheets.specs.Sheets.{Sheet, MarksBelow, Within, Earlier}
use Rattle.sheets.specs.Judging.{Judging}
use Rattle.sheets.specs.Scaling.{Scaling}
use Rattle.orders.specs.Search.{Search}
use Rattle.orders.specs.Searches.{start, present_at, absent_at, stepped, Steps}
use Rattle.orders.specs.Places.{Before}

module _ {C : Type 0} (j : Judging) (s : Scaling C) where
  -- every search ends
  pub record SearchEnds : Type 0 where
    -- it takes no more steps than there are places that decide the first marks below the count: 1 + 2 + 4 + .. + 2 ^ count
    pub few : (m : ℕ) (x : Search) → Steps j s start m x → m ≤ 2 ^ suc j.count - 1
    -- from wherever it has come, the steps that remain lead to its end
    pub ends : (m : ℕ) (x : Search) → Steps j s start m x → (k : ℕ) × (y : Search) × Steps j s x k y × (y.finished ≡ true)
    -- so many steps lead to one place, and the end comes after one number of them
    pub one : (m : ℕ) (x y : Search) → Steps j s start m x → Steps j s start m y → x ≡ y
    pub once : (m n : ℕ) (x y : Search) → Steps j s start m x → Steps j s start n y → x.finished ≡ true → y.finished ≡ true → m ≡ n

  -- the sheet lies before the place of the search
  abbrev pub BeforeAt : Search → Sheet → Type 0
  BeforeAt x z = Before x.finished (present_at j.count x) (absent_at j.count x) z

  -- the step from x passes the sheet z, which lies within the place: z is not allowed, or costs no less than the sheet that
  -- is held, or is the one that is held from then on
  pub record Passed (x : Search) (z : Sheet) : Type 0 where
    pub within : Within (present_at j.count x) (absent_at j.count x) z
    pub why :
        (j.allows z → ⊥)
        ⊎ (((h : Sheet) × (x.held ≡ Some h) × (s.below (s.cost z) (s.cost h) ≡ false))
        ⊎ ((stepped j s x).held ≡ Some z))

  -- a search goes through the sheets in their order
  pub record SearchInOrder : Type 0 where
    -- with a sheet, each earlier one lies before the place
    pub in_order : (m : ℕ) (x : Search) → Steps j s start m x → (y z : Sheet) → BeforeAt x z → Earlier y z → BeforeAt x y
    -- what lies before the place lies before the next one
    pub onward : (m : ℕ) (x : Search) → Steps j s start m x → x.finished ≡ false → (z : Sheet) → BeforeAt x z → BeforeAt (stepped j s x) z
    -- and what more lies there is passed by that step
    pub passes : (m : ℕ) (x : Search) → Steps j s start m x → x.finished ≡ false → (z : Sheet) → MarksBelow j.count z → BeforeAt (stepped j s x) z → BeforeAt x z ⊎ Passed x z
