-- Sheets of which one has all marks of the other.
use Rattle.std.proofs.Common.{◌≡◌, ℕ, zero, suc, ◌/◌, ◌%◌, ◌^◌, ◌≤◌, true, eqb, sym, ap, ◌∙◌, ⊎_elim, arith}
use lib.Bits.{bit_or}
use Rattle.std.proofs.lemmas.Bool.{cases_Bool, eqb-true, eqb-false, eq-eqb, or_cases, or_left, or_right}
use Rattle.sheets.specs.Sheets.{has, Subset}
use Rattle.sheets.specs.laws.Bits.{has_zero, has_suc, has_or, has_one}

-- ---- a word with fewer marks is no greater

half_subset : (y z : ℕ) → Subset y z → Subset (y / 2) (z / 2)
half_subset y z u i t = sym (has_suc z i) ∙ u (suc i) (has_suc y i ∙ t)

last_subset : (y z : ℕ) → Subset y z → y % 2 ≤ z % 2
last_subset y z u = ⊎_elim
    (λ t. let h : eqb (z % 2) 1 ≡ true = sym (has_zero z) ∙ u 0 (has_zero y ∙ t) in omega (arith, eqb-true (z % 2) 1 h))
    (λ f. let g = eqb-false (y % 2) 1 f in let e : y % 2 ≡ 0 = omega arith in omega arith) (cases_Bool (eqb (y % 2) 1))

subset_le_by : (n y z : ℕ) → y ≤ n → Subset y z → y ≤ z
subset_le_by zero y z le u = omega arith
subset_le_by (suc n) y z le u =
    let h : y / 2 ≤ z / 2 = subset_le_by n (y / 2) (z / 2) (omega arith) (half_subset y z u) in
    let d = last_subset y z u in
    omega arith

pub subset_le : (y z : ℕ) → Subset y z → y ≤ z
subset_le y z u = subset_le_by y y z (omega arith) u

pub same_subset : (y z : ℕ) → Subset y z → Subset z y → y ≡ z
same_subset y z u v = let a = subset_le y z u in let b = subset_le z y v in omega arith

-- ---- one mark more

pub more_has : (z m : ℕ) → has (bit_or z (2 ^ m)) m ≡ true
more_has z m = has_or z (2 ^ m) m ∙ or_right (has z m) (has (2 ^ m) m) (has_one m m ∙ eq-eqb m m (omega arith))

pub more_keeps : (z m : ℕ) → Subset z (bit_or z (2 ^ m))
more_keeps z m i t = has_or z (2 ^ m) i ∙ or_left (has z i) (has (2 ^ m) i) t

pub more_subset : (y m z : ℕ) → Subset y z → has z m ≡ true → Subset (bit_or y (2 ^ m)) z
more_subset y m z u h i e =
    ⊎_elim (u i) (λ b. ap (has z) (eqb-true i m (sym (has_one m i) ∙ b)) ∙ h)
    (or_cases (has y i) (has (2 ^ m) i) (sym (has_or y (2 ^ m) i) ∙ e))
