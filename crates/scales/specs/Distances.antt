-- The distance from the house sheet as a scale.
use Rattle.std.specs.Prelude.{ℕ, Bool, cond, not, ◌&&◌, ◌||◌, nat_lt}
use Rattle.sheets.specs.Sheets.{Mark, Sheet, width, has}
use Rattle.sheets.specs.Counting.{marks_where}
use Rattle.sheets.specs.Scaling.{Scaling}

-- one of the sheets y and z has mark i, and the other lacks it
abbrev pub differ_at : Sheet → Sheet → Mark → Bool
differ_at y z i = cond (has y i) (not (has z i)) (has z i)

-- the marks in which a sheet differs from the house sheet, and for a floor the decided ones among them
abbrev pub distance_of : Sheet → Scaling ℕ
distance_of house = record {
  cost = λ z. marks_where width (differ_at z house);
  floor = λ p a. marks_where width (λ i. (has p i || has a i) && differ_at p house i);
  below = nat_lt;
}
