-- One search: its place, one step, and a number of steps.
use Rattle.std.specs.Prelude.{◌≡◌, ℕ, zero, suc, ◌+◌, ◌-◌, ◌^◌, ◌<◌, ◌≤◌, Bool, true, false, if◌then◌else◌, not, ◌||◌, Some, None, Option, bit_and, bit_or}
use Rattle.sheets.specs.Sheets.{Sheet, Count, first_marks, has, others, full}
use Rattle.sheets.specs.Judging.{Judging}
use Rattle.sheets.specs.Scaling.{Scaling}
use Rattle.orders.specs.Search.{Search}

-- ---- the place

-- a search starts with nothing decided, and holds no sheet
abbrev pub start : Search
start = record { depth = 0; present = 0; held = None; finished = false }

-- the marks that the place decides: the first ones, and those from the count n upward
abbrev pub decided_at : Count → Search → Sheet
decided_at n x = bit_or (first_marks x.depth) (others (first_marks n))

-- the place as a part-sheet: of the marks that it decides, those that are present
unfoldable pub present_at : Count → Search → Sheet
present_at n x = bit_and x.present (decided_at n x)

-- and those that are absent
unfoldable pub absent_at : Count → Search → Sheet
absent_at n x = bit_and (others x.present) (decided_at n x)

-- ---- one step

-- dismissing the place that decides k marks, of which those of z are present: the trailing present decisions are dropped,
-- and the last absent one is turned into present; where no decision is left, the search is finished
abbrev pub dismissed : Count → Sheet → Option Sheet → Search
dismissed zero z held = record { depth = 0; present = 0; held = held; finished = true }
dismissed (suc k) z held =
    if has z k then dismissed k (z - 2 ^ k) held else record { depth = suc k; present = z + 2 ^ k; held = held; finished = false }

-- a sheet is held, and the floor is not below its cost
abbrev pub floor_not_below : {C : Type 0} → Scaling C → Option Sheet → C → Bool
floor_not_below s None floor = false
floor_not_below s (Some h) floor = not (s.below floor (s.cost h))

module _ {C : Type 0} (j : Judging) (s : Scaling C) where
  -- the judge calls the place dead
  abbrev pub dead_at : Search → Bool
  dead_at x = j.dead (present_at j.count x) (absent_at j.count x)

  -- a sheet is held, and the floor of the place is not below its cost
  abbrev pub floor_not_below_at : Search → Bool
  floor_not_below_at x = floor_not_below s x.held (s.floor (present_at j.count x) (absent_at j.count x))

  -- the place is dismissed at once
  abbrev pub dismisses : Search → Bool
  dismisses x = dead_at x || floor_not_below_at x

  -- the place is full
  abbrev pub full_at : Search → Bool
  full_at x = full (present_at j.count x) (absent_at j.count x)

  -- one step: the place is dismissed; or it is full, its sheet is held, and it is dismissed; or the next mark is decided
  -- absent
  abbrev pub stepped : Search → Search
  stepped x =
      if dismisses x then dismissed x.depth x.present x.held
      else if full_at x then dismissed x.depth x.present (Some (present_at j.count x))
      else record { depth = x.depth + 1; present = x.present; held = x.held; finished = false }

  -- n steps, each from a place that is not finished
  pub data Steps : Search → ℕ → Search → Type 0 where
    none : {x : Search} → Steps x zero x
    more : {x y : Search} {n : ℕ} → x.finished ≡ false → Steps (stepped x) n y → Steps x (suc n) y

  -- n steps, or those that remain if fewer
  pub record Walked (n : ℕ) (before : Search) (taken : ℕ) (after : Search) : Type 0 where
    pub steps : Steps before taken after
    pub few : taken ≤ n
    pub all : taken < n → after.finished ≡ true

  -- the steps that remain
  pub record Ended (before after : Search) : Type 0 where
    pub remaining : ℕ
    pub steps : Steps before remaining after
    pub finished : after.finished ≡ true

-- the sheet that is held with its cost, if there is one
abbrev pub priced : {C : Type 0} → Scaling C → Option Sheet → Option (Sheet × C)
priced s None = None
priced s (Some z) = Some (z, s.cost z)
