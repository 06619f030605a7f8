-- The mark k of a word, added and taken away as 2 ^ k.
use Rattle.std.proofs.Common.{◌≡◌, ℕ, zero, suc, ◌+◌, ◌-◌, ◌/◌, ◌%◌, ◌^◌, ◌<◌, ◌≤◌, true, false, eqb, sym, ap, ◌∙◌, ⊎_elim, arith}
use native.Mathlib.Nat.{pow-succ'}
use lib.Bits.{bit_and, bit_or, and_le_r, or_disjoint}
use Rattle.std.proofs.lemmas.Nat.{pow_pos}
use Rattle.std.proofs.lemmas.Bool.{both_ways, cases_lt, and_left, and_right, ne_eqb}
use Rattle.sheets.specs.Sheets.{has}
use Rattle.sheets.specs.laws.Bits.{has_zero, has_suc, has_none, has_high, has_one, has_and, same_marks}

-- the marks below k stay
pub has_plus : (k z i : ℕ) → i < k → has (z + 2 ^ k) i ≡ has z i
has_plus zero z i lt = absurd (omega arith)
has_plus (suc k) z zero lt =
    let h : (z + 2 ^ suc k) % 2 ≡ z % 2 = omega (arith, pow-succ' 2 k) in
    has_zero (z + 2 ^ suc k) ∙ ap (λ d. eqb d 1) h ∙ sym (has_zero z)
has_plus (suc k) z (suc i) lt =
    let h : (z + 2 ^ suc k) / 2 ≡ z / 2 + 2 ^ k = omega (arith, pow-succ' 2 k) in
    has_suc (z + 2 ^ suc k) i ∙ ap (λ q. has q i) h ∙ has_plus k (z / 2) i (omega arith) ∙ sym (has_suc z i)

-- a word with mark k is 2 ^ k at least
pub has_least : (k z : ℕ) → has z k ≡ true → 2 ^ k ≤ z
has_least k z e = ⊎_elim (λ lt. absurd (both_ways (has z k) (has_high k z k lt (omega arith)) e)) (λ le. le) (cases_lt z (2 ^ k))

pub has_minus : (k z i : ℕ) → has z k ≡ true → i < k → has (z - 2 ^ k) i ≡ has z i
has_minus k z i e lt =
    let least = has_least k z e in
    let h : z - 2 ^ k + 2 ^ k ≡ z = omega arith in
    sym (has_plus k (z - 2 ^ k) i lt) ∙ ap (λ q. has q i) h

pub minus_below : (k z : ℕ) → z < 2 ^ suc k → z - 2 ^ k < 2 ^ k
minus_below k z p = omega (arith, pow-succ' 2 k, pow_pos k)

pub plus_below : (k z : ℕ) → z < 2 ^ k → z + 2 ^ k < 2 ^ suc k
plus_below k z p = omega (arith, pow-succ' 2 k)

-- the mark k added by `|`
pub or_plus : (k z : ℕ) → has z k ≡ false → bit_or z (2 ^ k) ≡ z + 2 ^ k
or_plus k z e = or_disjoint z (2 ^ k) (same_marks (suc k) (bit_and z (2 ^ k)) 0 (omega (arith, and_le_r z (2 ^ k), pow-succ' 2 k, pow_pos k)) (pow_pos (suc k))
    (λ i lt. has_and z (2 ^ k) i ∙ ⊎_elim
    (λ lo. and_right (has z i) (has (2 ^ k) i) (has_one k i ∙ ne_eqb i k (λ q. omega arith)))
    (λ hi. let q : i ≡ k = omega arith in and_left (has z i) (has (2 ^ k) i) (ap (has z) q ∙ e))
    (cases_lt i k) ∙ sym (has_none i)))
