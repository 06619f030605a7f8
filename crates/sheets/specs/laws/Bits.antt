-- Lemmas; no contract names what stands here. The marks of a word.
use Rattle.std.specs.Prelude.{◌≡◌, ℕ, zero, suc, ◌+◌, ◌-◌, ◌*◌, ◌/◌, ◌%◌, ◌^◌, ◌<◌, ◌≤◌, min, max, true, false, not, ◌&&◌, ◌||◌, Decides, ◌==◌, bit_and, bit_or, nat_eq, nat_lt}
use Rattle.std.proofs.Common.{sym, ap, subst, ◌∙◌, ⊎_elim, div-one, add-zero, add-suc, one-add, arith, pow_mono}
use Rattle.std.proofs.Math.Nat.{pow-succ'}
use Rattle.std.specs.Int.Bits.{and_step, or_step}
use Rattle.std.proofs.lemmas.Nat.{shr-shr, pow_pos, div_below, le-div, and_shr, or_shr}
use Rattle.std.proofs.lemmas.Bool.Decides.{nat_tests}
use Rattle.std.proofs.lemmas.Bool.{both_ways, cases_lt, cases_Bool, lt-ltb, le-ltb, ltb-true, eq-eqb, ne_eqb}
use Rattle.sheets.specs.Sheets.{has, MarksBelow}

-- mark 0 is the last bit, and mark i + 1 is mark i of the half
pub has_zero : (z : ℕ) → has z 0 ≡ (z % 2 == 1)
unfolding has
has_zero z = ap (λ q. nat_eq (q % 2) 1) (div-one z)

pub has_suc : (z i : ℕ) → has z (suc i) ≡ has (z / 2) i
unfolding has
has_suc z i = ap (λ q. nat_eq (q % 2) 1) (sym (shr-shr z 1 i ∙ ap (λ m. z / 2 ^ m) (one-add i)))

two_suc : (k : ℕ) → 2 ^ suc k ≡ 2 * 2 ^ k
two_suc k = pow-succ' 2 k

-- the empty sheet
pub has_none : (i : ℕ) → has 0 i ≡ false
has_none zero = has_zero 0
has_none (suc i) = has_suc 0 i ∙ has_none i

-- a word below 2 ^ k has no mark from k up
pub has_high : (k z i : ℕ) → z < 2 ^ k → k ≤ i → has z i ≡ false
has_high zero z i lt le = let e : z ≡ 0 = omega arith in ap (λ (y : ℕ). has y i) e ∙ has_none i
has_high (suc k) z zero lt le = absurd (omega arith)
has_high (suc k) z (suc i) lt le = has_suc z i ∙ has_high k (z / 2) i (omega (arith, two_suc k)) (omega arith)

-- words below 2 ^ w with the same marks are equal
pub same_marks : (w y z : ℕ) → y < 2 ^ w → z < 2 ^ w → ((i : ℕ) → i < w → has y i ≡ has z i) → y ≡ z
same_marks zero y z p q h = omega arith
same_marks (suc w) y z p q h =
    let last : y % 2 ≡ z % 2 = digit (y % 2) (z % 2) (omega arith) (omega arith) (sym (has_zero y) ∙ h 0 (omega arith) ∙ has_zero z) in
    let rest : y / 2 ≡ z / 2 = same_marks w (y / 2) (z / 2) (omega (arith, two_suc w)) (omega (arith, two_suc w)) (λ i lt. sym (has_suc y i) ∙ h (suc i) (omega arith) ∙ has_suc z i) in
    omega arith
  where
    digit : (u v : ℕ) → u < 2 → v < 2 → (u == 1) ≡ (v == 1) → u ≡ v
    digit u v p q e = grind (arith, nat_tests)

-- the word of the one mark k
pub has_one : (k i : ℕ) → has (2 ^ k) i ≡ (i == k)
has_one zero zero = has_zero 1
has_one zero (suc i) = has_suc 1 i ∙ has_none i ∙ sym (ne_eqb (suc i) 0 (λ e. omega arith))
has_one (suc k) zero =
    let h : 2 ^ suc k % 2 ≡ 0 = omega (arith, two_suc k) in
    has_zero (2 ^ suc k) ∙ ap (λ d. nat_eq d 1) h ∙ sym (ne_eqb 0 (suc k) (λ e. omega arith))
has_one (suc k) (suc i) =
    let h : 2 ^ suc k / 2 ≡ 2 ^ k = omega (arith, two_suc k) in
    has_suc (2 ^ suc k) i ∙ ap (λ q. has q i) h ∙ has_one k i ∙ next
  where
    next : nat_eq i k ≡ (suc i == suc k)
    next = grind (arith, nat_tests)

turn : (d e : ℕ) → d < 2 → e < 2 → d + e ≡ 1 → (d == 1) ≡ not (e == 1)
turn d e p q h = grind (arith, nat_tests)

-- adding 2 ^ k turns mark k
pub has_plus_at : (k z : ℕ) → has (z + 2 ^ k) k ≡ not (has z k)
has_plus_at zero z = has_zero (z + 1) ∙ turn ((z + 1) % 2) (z % 2) (omega arith) (omega arith) (omega arith) ∙ ap not (sym (has_zero z))
has_plus_at (suc k) z =
    let h : (z + 2 ^ suc k) / 2 ≡ z / 2 + 2 ^ k = omega (arith, two_suc k) in
    has_suc (z + 2 ^ suc k) k ∙ ap (λ q. has q k) h ∙ has_plus_at k (z / 2) ∙ ap not (sym (has_suc z k))

-- the complement within w bits
pub has_complement : (w z i : ℕ) → z < 2 ^ w → i < w → has (2 ^ w - 1 - z) i ≡ not (has z i)
has_complement zero z i p lt = absurd (omega arith)
has_complement (suc w) z zero p lt =
    has_zero (2 ^ suc w - 1 - z) ∙ turn ((2 ^ suc w - 1 - z) % 2) (z % 2) (omega arith) (omega arith) (omega (arith, two_suc w)) ∙ ap not (sym (has_zero z))
has_complement (suc w) z (suc i) p lt =
    let h : (2 ^ suc w - 1 - z) / 2 ≡ 2 ^ w - 1 - z / 2 = omega (arith, two_suc w) in
    has_suc (2 ^ suc w - 1 - z) i ∙ ap (λ q. has q i) h ∙ has_complement w (z / 2) i (omega (arith, two_suc w)) (omega arith) ∙ ap not (sym (has_suc z i))

-- the first k marks
pub has_first : (k i : ℕ) → i < k → has (2 ^ k - 1) i ≡ true
has_first k i lt =
    let h : 2 ^ k - 1 ≡ 2 ^ k - 1 - 0 = omega arith in
    ap (λ q. has q i) h ∙ has_complement k 0 i (pow_pos k) lt ∙ ap not (has_none i)

-- and, or
pub has_and : (y z i : ℕ) → has (bit_and y z) i ≡ (has y i && has z i)
unfolding has
has_and y z i =
    let u = y / 2 ^ i in
    let v = z / 2 ^ i in
    let d : bit_and u v % 2 ≡ min (u % 2) (v % 2) = omega (arith, and_step u v) in
    ap (λ q. nat_eq (q % 2) 1) (and_shr y z i) ∙ ap (λ q. nat_eq q 1) d ∙ digit (u % 2) (v % 2) (omega arith) (omega arith)
  where
    digit : (u v : ℕ) → u < 2 → v < 2 → (min u v == 1) ≡ (u == 1 && v == 1)
    digit u v p q = grind (arith, nat_tests)

pub has_or : (y z i : ℕ) → has (bit_or y z) i ≡ (has y i || has z i)
unfolding has
has_or y z i =
    let u = y / 2 ^ i in
    let v = z / 2 ^ i in
    let d : bit_or u v % 2 ≡ max (u % 2) (v % 2) = omega (arith, or_step u v) in
    ap (λ q. nat_eq (q % 2) 1) (or_shr y z i) ∙ ap (λ q. nat_eq q 1) d ∙ digit (u % 2) (v % 2) (omega arith) (omega arith)
  where
    digit : (u v : ℕ) → u < 2 → v < 2 → (max u v == 1) ≡ (u == 1 || v == 1)
    digit u v p q = grind (arith, nat_tests)

-- a word below 2 ^ (k + 1) without mark k is below 2 ^ k
pub lacks_top : (k z : ℕ) → z < 2 ^ suc k → has z k ≡ false → z < 2 ^ k
lacks_top k z p e = ⊎_elim (λ lt. lt) (λ le. absurd (both_ways (has z k) e (top le))) (cases_lt z (2 ^ k))
  where
    top : 2 ^ k ≤ z → has z k ≡ true
    top le =
        let h : z - 2 ^ k + 2 ^ k ≡ z = omega arith in
        ap (λ q. has q k) (sym h) ∙ has_plus_at k (z - 2 ^ k) ∙ ap not (has_high k (z - 2 ^ k) k (omega (arith, two_suc k, pow_pos k)) (omega arith))

-- a word without marks from n up is below 2 ^ n
pub lacks_high : (n d z : ℕ) → z < 2 ^ (n + d) → ((i : ℕ) → n ≤ i → has z i ≡ false) → z < 2 ^ n
lacks_high n zero z p h = subst (λ (m : ℕ). z < 2 ^ m) (add-zero n) p
lacks_high n (suc d) z p h =
    lacks_high n d z (lacks_top (n + d) z (subst (λ (m : ℕ). z < 2 ^ m) (add-suc n d) p) (h (n + d) (omega arith))) h

-- a word is below 2 ^ n exactly when its marks are below n
pub below_marks : (n z : ℕ) → z < 2 ^ n → MarksBelow n z
below_marks n z p i e = ⊎_elim (λ lt. lt) (λ le. absurd (both_ways (has z i) (has_high n z i p le) e)) (cases_lt i n)

pub marks_below : (n z : ℕ) → MarksBelow n z → z < 2 ^ n
marks_below n z h =
    let wide : 2 ^ z ≤ 2 ^ (n + z) = pow_mono {i = z} {j = n + z} (omega arith) in
    lacks_high n z z (omega (arith, power z)) (λ i from. ⊎_elim (λ t. absurd (omega (arith, h i t))) (λ f. f) (cases_Bool (has z i)))
  where
    power : (m : ℕ) → m < 2 ^ m
    power zero = pow_pos 0
    power (suc m) = omega (arith, power m, two_suc m)

pub decides_below : (n z : ℕ) → Decides (nat_lt z (2 ^ n)) (MarksBelow n z)
decides_below n z = (λ t. below_marks n z (ltb-true z (2 ^ n) t), λ h. lt-ltb z (2 ^ n) (marks_below n z h))

-- what `z >> k == 0` tests
pub quotient_none : (z k : ℕ) → 0 < k → (z / k == 0) ≡ nat_lt z k
quotient_none z k h =
    ⊎_elim
    (λ l. eq-eqb (z / k) 0 (omega (arith, div_below z k 1 h (omega arith))) ∙ sym (lt-ltb z k l))
    (λ l. ne_eqb (z / k) 0 (λ e. omega (arith, le-div 1 z k h (omega arith))) ∙ sym (le-ltb z k l))
    (cases_lt z k)
