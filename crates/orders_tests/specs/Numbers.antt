-- The number of a sheet as a scale.
use Rattle.std.specs.Prelude.{ℕ, bit_and, nat_lt}
use Rattle.sheets.specs.Scaling.{Scaling}

-- the word of the marks that count; for a floor, of the present ones among them
abbrev pub number_of : ℕ → Scaling ℕ
number_of counted = record {
  cost = λ z. bit_and z counted;
  floor = λ p a. bit_and p counted;
  below = nat_lt;
}
