-- Lemmas; no contract names what stands here. The laws of the number of a sheet.
use Rattle.std.specs.Prelude.{ℕ, ◌≤◌, bit_and, nat_lt, refl}
use Rattle.std.proofs.Common.{sym, ◌∙◌, inl, inr, ⊎_elim, arith}
use Rattle.std.proofs.lemmas.Bool.{cases_order, and_from, and_parts, lt-ltb, le-ltb, ltb-true}
use Rattle.sheets.specs.Sheets.{has, Subset}
use Rattle.total_order.specs.laws.Orders.{number_order}
use Rattle.sheets.specs.Scaling.{ScaleLaws}
use Rattle.sheets.specs.laws.Bits.{has_and}
use Rattle.sheets.proofs.Subsets.{subset_le}
use Rattle.orders_tests.specs.Numbers.{number_of}

-- more marks make no smaller number
counted_le : (p z counted : ℕ) → Subset p z → bit_and p counted ≤ bit_and z counted
counted_le p z counted h = subset_le (bit_and p counted) (bit_and z counted) (λ i t.
    let b = and_parts (has p i) (has counted i) (sym (has_and p counted i) ∙ t) in
    has_and z counted i ∙ and_from (has z i) (has counted i) (h i b.0) b.1)

pub number_laws : (counted : ℕ) → ScaleLaws (number_of counted)
number_laws counted = record {
  order = number_order;
  bound = λ p a z part w. le-ltb (bit_and z counted) (bit_and p counted) (counted_le p z counted w.all);
  exact = λ p a part every. refl;
}
