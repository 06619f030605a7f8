-- Sheets and part-sheets, mark by mark.
use Rattle.std.specs.Prelude.{◌≡◌, ℕ, ◌-◌, ◌/◌, ◌%◌, ◌^◌, ◌<◌, min, Bool, true, false, ◌⊎◌, ◌==◌, bit_or, nat_lt}

-- one thing that a sheet may have, by its number
abbrev pub Mark : Type 0
Mark = ℕ

-- a set of marks, as a word: bit i stands for mark i
abbrev pub Sheet : Type 0
Sheet = ℕ

-- how many marks a judge or a file has: they are those below it
abbrev pub Count : Type 0
Count = ℕ

-- how many marks there are
abbrev pub width : Count
width = 64

-- the sheet has mark i
unfoldable pub has : Sheet → Mark → Bool
has sheet i = sheet / 2 ^ i % 2 == 1

-- the sheet of the marks that the sheet lacks
abbrev pub others : Sheet → Sheet
others sheet = 2 ^ width - 1 - sheet

-- the sheet of the marks below n; from the width upward, of all marks
abbrev pub first_marks : Count → Sheet
first_marks n = 2 ^ min n width - 1

-- each mark of the sheet is below n
abbrev pub MarksBelow : Count → Sheet → Type 0
MarksBelow n sheet = (i : Mark) → has sheet i ≡ true → i < n

-- the same as a test
abbrev pub within_count : Count → Sheet → Bool
within_count n sheet = nat_lt sheet (2 ^ n)

-- each mark of y is a mark of z
abbrev pub Subset : Sheet → Sheet → Type 0
Subset y z = (i : Mark) → has y i ≡ true → has z i ≡ true

-- no mark of y is a mark of z
abbrev pub Apart : Sheet → Sheet → Type 0
Apart y z = (i : Mark) → has y i ≡ true → has z i ≡ false

-- a part-sheet has present and absent marks, and no mark is both
pub record Part (present absent : Sheet) : Type 0 where
  pub present_word : present < 2 ^ width
  pub absent_word : absent < 2 ^ width
  pub apart : Apart present absent

-- the sheet z lies within the part-sheet: it has every present mark and no absent one
pub record Within (present absent z : Sheet) : Type 0 where
  pub word : z < 2 ^ width
  pub all : Subset present z
  pub none : Apart absent z

-- each mark is present or absent; such a part-sheet stands for the sheet of its present marks
abbrev pub Full : Sheet → Sheet → Type 0
Full present absent = (i : Mark) → i < width → (has present i ≡ true) ⊎ (has absent i ≡ true)

-- the same as a test
abbrev pub full : Sheet → Sheet → Bool
full present absent = bit_or present absent == 2 ^ width - 1

-- of two sheets, the earlier lacks the lowest mark on which they differ
pub record Earlier (y z : Sheet) : Type 0 where
  -- y lacks this mark,
  pub mark : Mark
  pub lacks : has y mark ≡ false
  -- z has it,
  pub other : has z mark ≡ true
  -- and on the lower ones they agree
  pub agree : (i : Mark) → i < mark → has y i ≡ has z i
