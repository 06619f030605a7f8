-- What a judge means, the laws that it keeps, and the judge that is made of two.
use Rattle.std.specs.Prelude.{◌≡◌, ◌≤◌, min, Bool, true, false, ◌||◌}
use Rattle.sheets.specs.Sheets.{Sheet, Count, width, MarksBelow, Part, Within, Full}

-- a count, the sheets that are allowed, and the part-sheets, by their present and their absent marks, that are called dead
pub record Judging : Type 1 where
  pub count : Count
  pub allows : Sheet → Type 0
  pub dead : Sheet → Sheet → Bool

-- what holds of each judge; p and a are the present and the absent marks of a part-sheet
pub record JudgeLaws (j : Judging) : Type 0 where
  -- the count is from 1 to the number of marks
  pub some : 1 ≤ j.count
  pub few : j.count ≤ width
  -- an allowed sheet has only marks below the count
  pub inside : (z : Sheet) → j.allows z → MarksBelow j.count z
  -- no allowed sheet lies within a dead part-sheet
  pub sound : (p a z : Sheet) → Part p a → j.dead p a ≡ true → Within p a z → j.allows z → ⊥
  -- a full part-sheet is dead exactly when its sheet is not allowed: where it is dead, the sheet is not (this follows from
  -- `sound`), and else it is
  pub full_dead : (p a : Sheet) → Part p a → Full p a → j.dead p a ≡ true → j.allows p → ⊥
  pub full_allowed : (p a : Sheet) → Part p a → Full p a → j.dead p a ≡ false → j.allows p

-- both judges: the smaller count, what both allow, and what either calls dead
abbrev pub both : Judging → Judging → Judging
both j k = record {
  count = min j.count k.count;
  allows = λ z. j.allows z × k.allows z;
  dead = λ p a. j.dead p a || k.dead p a;
}
