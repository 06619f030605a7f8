use Rattle.std.proofs.Common.{◌≡◌, ℕ, ◌^◌, ◌<◌, ◌&&◌, ◌||◌, ap, ◌∙◌, ap₂, arith}
use lib.Bits.{bit_and, bit_or, bit_xor, and_lt, or_lt, xor_lt}
use lib.Count.{ones}
use Rattle.sheets.specs.Sheets.{width, has}
use Rattle.sheets.specs.laws.Bits.{has_and, has_or}
use Rattle.sheets.specs.Counting.{marks_where}
use Rattle.sheets.specs.laws.Counting.{ones_where}
use Rattle.scales.specs.Distances.{differ_at}
use Rattle.scales.specs.laws.Counts.{has_xor}
use Rattle.scales.proofs.distance.DistanceScale.floor.Goals as goal

-- the ones of the word are the decided marks that differ
decided : (p a house : ℕ) → p < 2 ^ width → a < 2 ^ width → house < 2 ^ width
    → ones (bit_and (bit_or p a) (bit_xor p house)) ≡ marks_where width (λ i. (has p i || has a i) && differ_at p house i)
decided p a house u v w =
    ones_where (bit_and (bit_or p a) (bit_xor p house)) (λ i. (has p i || has a i) && differ_at p house i)
    (and_lt width (bit_or p a) (bit_xor p house) (or_lt width p a u v) (xor_lt width p house u w))
    (λ i lt. has_and (bit_or p a) (bit_xor p house) i ∙ ap₂ (λ b c. b && c) (has_or p a i) (has_xor p house i))

pub returns : goal.returns
returns c =
    let p = c.args.part.present in
    let a = c.args.part.absent in
    let house = c.args.self.now.house in
    let u : p < 2 ^ width = omega arith in
    let v : a < 2 ^ width = omega arith in
    let w : house < 2 ^ width = omega arith in
    ap₂ (λ x y. ones (bit_and x y)) (ap₂ bit_or c.present.ensures c.absent.ensures) (ap (λ x. bit_xor x house) c.present-2.ensures) ∙ decided p a house u v w
