-- Lemmas; no contract names what stands here. Part-sheets, and the sheets within them.
use Rattle.std.specs.Prelude.{◌≡◌, ℕ, ◌-◌, ◌^◌, ◌<◌, not, ◌&&◌, Decides, bit_and, bit_or}
use Rattle.std.proofs.Common.{sym, ap, ◌∙◌, inl, inr, ⊎_elim, arith}
use Rattle.std.specs.Int.Bits.{and_lt}
use Rattle.std.proofs.Math.Pow.{ones_lt}
use Rattle.std.proofs.lemmas.Nat.{pow_pos, or_lt}
use Rattle.std.proofs.lemmas.Bool.{both_ways, cases_Bool, cases_lt, eqb-true, eq-eqb, and_parts, and_left, and_right, or_cases, or_left, or_right}
use Rattle.sheets.specs.Sheets.{width, has, others, Subset, Apart, Part, Within, Full, full}
use Rattle.sheets.specs.laws.Bits.{has_none, has_high, has_and, has_or, has_first, has_complement, same_marks}

-- ---- words with no mark in common

pub apart_turned : (y z : ℕ) → Apart y z → Apart z y
apart_turned y z h i t = ⊎_elim (λ u. absurd (both_ways (has z i) (h i u) t)) (λ f. f) (cases_Bool (has y i))

pub apart_from_and : (y z : ℕ) → bit_and y z ≡ 0 → Apart y z
apart_from_and y z e i t =
    ap (λ b. b && has z i) (sym t) ∙ sym (has_and y z i) ∙ ap (λ q. has q i) e ∙ has_none i

pub and_from_apart : (w y z : ℕ) → y < 2 ^ w → z < 2 ^ w → Apart y z → bit_and y z ≡ 0
and_from_apart w y z p q h =
    same_marks w (bit_and y z) 0 (and_lt w y z p q) (pow_pos w)
    (λ i lt. has_and y z i ∙ ⊎_elim (λ t. and_right (has y i) (has z i) (h i t)) (and_left (has y i) (has z i)) (cases_Bool (has y i)) ∙ sym (has_none i))

-- a part-sheet as the code holds it: two words whose `&` is 0
pub part_from_and : (p a : ℕ) → p < 2 ^ width → a < 2 ^ width → bit_and p a ≡ 0 → Part p a
part_from_and p a u v e = record { present_word = u; absent_word = v; apart = apart_from_and p a e }

-- ---- the marks that a sheet lacks

module _ (z : ℕ) (word : z < 2 ^ width) where
  pub others_word : others z < 2 ^ width
  others_word = omega arith

  pub has_others : (i : ℕ) → i < width → has (others z) i ≡ not (has z i)
  has_others i lt = has_complement width z i word lt

  pub others_apart : Apart z (others z)
  others_apart i t = ⊎_elim
      (λ lt. has_others i lt ∙ ap not t)
      (λ from. has_high width (others z) i others_word from)
      (cases_lt i width)

  -- the part-sheet that stands for the sheet
  pub sheet_part : Part z (others z)
  sheet_part = record { present_word = word; absent_word = others_word; apart = others_apart }

  pub sheet_full : Full z (others z)
  sheet_full i lt = ⊎_elim inl (λ f. inr (has_others i lt ∙ ap not f)) (cases_Bool (has z i))

-- a sheet with no mark of y has only marks that y lacks
pub subset_others : (y z : ℕ) → y < 2 ^ width → z < 2 ^ width → Apart y z → Subset z (others y)
subset_others y z p q h i t = ⊎_elim
    (λ lt. has_others y p i lt ∙ ap not (apart_turned y z h i t))
    (λ from. absurd (both_ways (has z i) (has_high width z i q from) t))
    (cases_lt i width)

-- ---- the marks that a sheet has, and those that it lacks, among the decided ones

module _ (d z : ℕ) (decided : d < 2 ^ width) (word : z < 2 ^ width) where
  pub deciding_apart : Apart (bit_and z d) (bit_and (others z) d)
  deciding_apart i t =
      let there = and_parts (has z i) (has d i) (sym (has_and z d i) ∙ t) in
      has_and (others z) d i ∙ and_left (has (others z) i) (has d i) (others_apart z word i there.0)

  pub deciding_disjoint : bit_and (bit_and z d) (bit_and (others z) d) ≡ 0
  deciding_disjoint = and_from_apart width (bit_and z d) (bit_and (others z) d)
      (and_lt width z d word decided) (and_lt width (others z) d (others_word z word) decided) deciding_apart

-- ---- full part-sheets

pub decides_full : (p a : ℕ) → p < 2 ^ width → a < 2 ^ width → Decides (full p a) (Full p a)
decides_full p a u v = (
  λ t i lt. or_cases (has p i) (has a i) (sym (has_or p a i) ∙ ap (λ q. has q i) (eqb-true (bit_or p a) (2 ^ width - 1) t) ∙ has_first width i lt),
  λ h. eq-eqb (bit_or p a) (2 ^ width - 1)
      (same_marks width (bit_or p a) (2 ^ width - 1) (or_lt width p a u v) (ones_lt width)
      (λ i lt. has_or p a i ∙ ⊎_elim (or_left (has p i) (has a i)) (or_right (has p i) (has a i)) (h i lt) ∙ sym (has_first width i lt))),
)

module _ (p a : ℕ) (part : Part p a) where
  -- the sheet of the present marks lies within
  pub within_itself : Within p a p
  within_itself = record { word = part.present_word; all = λ i t. t; none = apart_turned p a part.apart }

  module _ (every : Full p a) where
    -- and within a full part-sheet no other
    pub within_full : (z : ℕ) → Within p a z → z ≡ p
    within_full z w = same_marks width z p w.word part.present_word (λ i lt. ⊎_elim
        (λ t. w.all i t ∙ sym t)
        (λ t. w.none i t ∙ sym (apart_turned p a part.apart i t))
        (every i lt))

    -- what is not absent is present
    pub full_others : others a ≡ p
    full_others = same_marks width (others a) p (others_word a part.absent_word) part.present_word (λ i lt. has_others a part.absent_word i lt ∙ ⊎_elim
        (λ t. ap not (part.apart i t) ∙ sym t)
        (λ t. ap not t ∙ sym (apart_turned p a part.apart i t))
        (every i lt))
