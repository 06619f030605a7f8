-- What else is proved of the cost of wishes.
use Rattle.std.specs.Prelude.{◌≡◌, ℕ, true, false, cond, List, [], ◌∷◌, ◌++◌, ℤ, pos, ◌+ℤ◌, None, ◌==◌, Contains, IsPermutation}
use Rattle.std.specs.Int.{int_min}
use Rattle.std.specs.List.{list_all, list_any}
use Rattle.sheets.specs.Sheets.{Sheet}
use Rattle.sheets.specs.Literals.{held, holds, in_every, in_some}
use Rattle.rulefile.specs.Model.{WishModel}
use Rattle.rulefile.specs.WeakConstraints.{is_untagged, same_group}
use Rattle.scales.specs.Wishes.{level_cost, level_floor}

-- lists of wishes cost the same, and the same at least, at each level
pub record SameCosts (vs ws : List WishModel) : Type 0 where
  pub costs : (z : Sheet) (n : ℕ) → level_cost z vs n ≡ level_cost z ws n
  pub floors : (p a : Sheet) (n : ℕ) → level_floor p a vs n ≡ level_floor p a ws n

-- the wish without its tag
abbrev pub without_tag : WishModel → WishModel
without_tag w = record { level = w.level; tag = None; weight = w.weight; literals = w.literals }

-- ---- what wishes cost record by record, each by itself

-- the weight of the wish, if all its literals hold in the sheet z
abbrev pub wish_cost : Sheet → WishModel → ℤ
wish_cost z w = cond (list_all (holds z) w.literals) w.weight (pos 0)

-- within a part-sheet: the weight if the wish holds in every sheet, 0 if one literal fails in all, else the smaller of the
-- weight and 0
abbrev pub wish_floor : Sheet → Sheet → WishModel → ℤ
wish_floor p a w =
    cond (list_all (held (in_every p a)) w.literals) w.weight (cond (list_all (held (in_some p a)) w.literals) (int_min w.weight (pos 0)) (pos 0))

-- what the wishes of level n add up to
abbrev pub by_records : (WishModel → ℤ) → List WishModel → ℕ → ℤ
by_records f [] n = pos 0
by_records f (w ∷ ws) n = cond (w.level == n) (f w) (pos 0) +ℤ by_records f ws n

-- ---- the theorems

-- Wishes that share a tag.
pub record GroupsStand : Type 0 where
  -- a record of a group that comes once more, wherever it stands, changes nothing
  pub repeated : (us vs : List WishModel) (w : WishModel) → is_untagged w ≡ false → Contains (us ++ vs) w → SameCosts (us ++ w ∷ vs) (us ++ vs)
  -- nor does another order of the records
  pub reordered : (vs ws : List WishModel) → IsPermutation vs ws → SameCosts vs ws
  -- a wish that is a group of its own is worth what it is without its tag
  pub alone : (us vs : List WishModel) (w : WishModel) → list_any (same_group w) (us ++ vs) ≡ false → SameCosts (us ++ w ∷ vs) (us ++ without_tag w ∷ vs)
  -- and where no wish has a tag, each counts by itself, record by record
  pub untagged : (ws : List WishModel) → list_all is_untagged ws ≡ true → (z p a : Sheet) (n : ℕ)
      → (level_cost z ws n ≡ by_records (wish_cost z) ws n) × (level_floor p a ws n ≡ by_records (wish_floor p a) ws n)
