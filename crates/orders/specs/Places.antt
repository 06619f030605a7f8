-- A place by its present and its absent marks: which marks it decides, and which sheets lie before it.
use Rattle.std.specs.Prelude.{◌≡◌, ◌<◌, ◌≤◌, Bool, true, false, ◌⊎◌, ◌↔◌}
use Rattle.sheets.specs.Sheets.{Mark, Sheet, Count, width, has, Full}

-- of the marks below the count the place decides exactly the first k; all marks from the count upward are absent
pub record DecidesFirst (count k : Count) (present absent : Sheet) : Type 0 where
  pub few : k ≤ count
  pub decided : (i : Mark) → i < k → (has present i ≡ true) ⊎ (has absent i ≡ true)
  pub open_marks : (i : Mark) → k ≤ i → i < count → (has present i ≡ false) × (has absent i ≡ false)
  pub beyond : (i : Mark) → count ≤ i → i < width → has absent i ≡ true
  -- so it is full exactly when k is the count
  pub full : Full present absent ↔ (k ≡ count)

-- the sheet z lacks the lowest decided mark on which it and the place differ
pub record LiesBefore (present absent z : Sheet) : Type 0 where
  pub mark : Mark
  pub there : has present mark ≡ true
  pub lacks : has z mark ≡ false
  pub same_present : (i : Mark) → i < mark → has present i ≡ true → has z i ≡ true
  pub same_absent : (i : Mark) → i < mark → has absent i ≡ true → has z i ≡ false

-- before a finished place lies every sheet
abbrev pub Before : Bool → Sheet → Sheet → Sheet → Type 0
Before finished present absent z = (finished ≡ true) ⊎ LiesBefore present absent z
