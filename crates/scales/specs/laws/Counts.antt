-- Lemmas; no contract names what stands here. Where two words differ, and the laws of the distance.
use Rattle.std.specs.Prelude.{◌≡◌, ℕ, ◌+◌, ◌/◌, ◌%◌, ◌^◌, ◌<◌, true, cond, not, ◌&&◌, ◌||◌, ◌==◌, bit_xor, nat_eq}
use Rattle.std.proofs.Common.{sym, ap, ◌∙◌, ⊎_elim, arith}
use Rattle.std.proofs.lemmas.Nat.{xor_shr}
use Rattle.std.specs.Int.Bits.{xor_add_and}
use Rattle.std.proofs.lemmas.Bool.Decides.{nat_tests}
use Rattle.std.proofs.lemmas.Bool.{le-ltb, and_parts, or_cases, or_left, or_right}
use Rattle.sheets.specs.Sheets.{width, has, Part, Within}
use Rattle.sheets.specs.Scaling.{ScaleLaws}
use Rattle.sheets.specs.laws.Parts.{apart_turned}
use Rattle.total_order.specs.laws.Orders.{number_order}
use Rattle.sheets.specs.laws.Counting.{marks_same, marks_le}
use Rattle.scales.specs.Distances.{differ_at, distance_of}

-- ---- exclusive or

pub has_xor : (y z i : ℕ) → has (bit_xor y z) i ≡ differ_at y z i
unfolding has
has_xor y z i =
    let u = y / 2 ^ i in
    let v = z / 2 ^ i in
    let d : bit_xor u v % 2 ≡ (u % 2 + v % 2) % 2 = omega (arith, xor_add_and u v) in
    ap (λ q. nat_eq (q % 2) 1) (xor_shr y z i) ∙ ap (λ q. nat_eq q 1) d ∙ digit (u % 2) (v % 2) (omega arith) (omega arith)
  where
    digit : (u v : ℕ) → u < 2 → v < 2 → ((u + v) % 2 == 1) ≡ cond (u == 1) (not (v == 1)) (v == 1)
    digit u v p q = grind (arith, nat_tests)

-- ---- the laws

-- a decided mark is the same in every sheet within
decided_same : (p a z i : ℕ) → Part p a → Within p a z → (has p i || has a i) ≡ true → has p i ≡ has z i
decided_same p a z i part within t = ⊎_elim
    (λ u. u ∙ sym (within.all i u))
    (λ u. apart_turned p a part.apart i u ∙ sym (within.none i u))
    (or_cases (has p i) (has a i) t)

module _ (house : ℕ) where
  decided_differ : (p a z : ℕ) → Part p a → Within p a z → (i : ℕ) → ((has p i || has a i) && differ_at p house i) ≡ true → differ_at z house i ≡ true
  decided_differ p a z part within i t =
      let b = and_parts (has p i || has a i) (differ_at p house i) t in
      ap (λ q. cond q (not (has house i)) (has house i)) (sym (decided_same p a z i part within b.0)) ∙ b.1

  pub distance_laws : ScaleLaws (distance_of house)
  distance_laws = record {
    order = number_order;
    bound = λ p a z part within. le-ltb ((distance_of house).cost z) ((distance_of house).floor p a)
        (marks_le width (λ i. (has p i || has a i) && differ_at p house i) (differ_at z house) (decided_differ p a z part within));
    exact = λ p a part every. marks_same width (λ i. (has p i || has a i) && differ_at p house i) (differ_at p house)
        (λ i lt. ap (λ b. b && differ_at p house i) (⊎_elim (or_left (has p i) (has a i)) (or_right (has p i) (has a i)) (every i lt)));
  }
