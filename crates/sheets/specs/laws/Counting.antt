-- Lemmas; no contract names what stands here. How many marks pass a test, and how many a word has.
use Rattle.std.specs.Prelude.{◌≡◌, ℕ, zero, suc, ◌+◌, ◌/◌, ◌%◌, ◌^◌, ◌<◌, ◌≤◌, Bool, true, false, cond, ◌&&◌, ◌||◌, ◌==◌}
use Rattle.std.proofs.Common.{refl, sym, ap, ap₂, ◌∙◌, arith}
use Rattle.std.proofs.Math.Nat.{pow-succ'}
use Rattle.std.specs.Int.Count.{ones, ones_in, ones_step}
use Rattle.std.proofs.lemmas.Bool.Decides.{nat_tests}
use Rattle.std.proofs.lemmas.Bool.{ne_eqb}
use Rattle.sheets.specs.Sheets.{width, has}
use Rattle.sheets.specs.laws.Bits.{has_zero, has_suc}
use Rattle.sheets.specs.Counting.{marks_where}

pub marks_same : (n : ℕ) (f g : ℕ → Bool) → ((i : ℕ) → i < n → f i ≡ g i) → marks_where n f ≡ marks_where n g
unfolding marks_where
marks_same zero f g same = refl
marks_same (suc n) f g same =
    ap₂ (λ b m. cond b 1 0 + m) (same 0 (omega arith)) (marks_same n (λ i. f (suc i)) (λ i. g (suc i)) (λ i lt. same (suc i) (omega arith)))

pub marks_none : (n : ℕ) → marks_where n (λ i. false) ≡ 0
unfolding marks_where
marks_none zero = refl
marks_none (suc n) = let rest = marks_none n in omega (arith, rest)

pub marks_most : (n : ℕ) (f : ℕ → Bool) → marks_where n f ≤ n
unfolding marks_where
marks_most zero f = omega arith
marks_most (suc n) f = let rest = marks_most n (λ i. f (suc i)) in digit (f 0) rest
  where
    digit : (b : Bool) → marks_where n (λ i. f (suc i)) ≤ n → cond b 1 0 + marks_where n (λ i. f (suc i)) ≤ suc n
    digit true rest = omega arith
    digit false rest = omega arith

pub marks_le : (n : ℕ) (f g : ℕ → Bool) → ((i : ℕ) → f i ≡ true → g i ≡ true) → marks_where n f ≤ marks_where n g
unfolding marks_where
marks_le zero f g le = omega arith
marks_le (suc n) f g le =
    let rest = marks_le n (λ i. f (suc i)) (λ i. g (suc i)) (λ i. le (suc i)) in
    let first = digit (f 0) (g 0) (le 0) in
    omega arith
  where
    digit : (b c : Bool) → (b ≡ true → c ≡ true) → cond b 1 0 ≤ cond c 1 0
    digit true c h = let e : ◌≡◌ {A = ℕ} (cond c 1 0) 1 = ap (λ x. cond {A = ℕ} x 1 0) (h refl) in omega arith
    digit false c h = omega arith

-- one mark more that may pass
pub marks_more : (n m : ℕ) (f g : ℕ → Bool) → m < n → f m ≡ false
    → marks_where n (λ i. (m == i || f i) && g i) ≡ cond (g m) 1 0 + marks_where n (λ i. f i && g i)
unfolding marks_where
marks_more zero m f g lt e = absurd (omega arith)
marks_more (suc n) zero f g lt e =
    let none : ◌≡◌ {A = ℕ} (cond (f 0 && g 0) 1 0) 0 = ap (λ b. cond {A = ℕ} (b && g 0) 1 0) e in
    let rest = marks_same n (λ i. (0 == suc i || f (suc i)) && g (suc i)) (λ i. f (suc i) && g (suc i)) (λ i lt. ap (λ b. (b || f (suc i)) && g (suc i)) (ne_eqb 0 (suc i) (λ q. omega arith))) in
    omega (arith, none, rest)
marks_more (suc n) (suc m) f g lt e =
    let first : ◌≡◌ {A = ℕ} (cond ((suc m == 0 || f 0) && g 0) 1 0) (cond (f 0 && g 0) 1 0) = ap (λ b. cond {A = ℕ} ((b || f 0) && g 0) 1 0) (ne_eqb (suc m) 0 (λ q. omega arith)) in
    let shift = marks_same n (λ i. (suc m == suc i || f (suc i)) && g (suc i)) (λ i. (m == i || f (suc i)) && g (suc i)) (λ i lt. ap (λ b. (b || f (suc i)) && g (suc i)) (next i)) in
    let rest = marks_more n m (λ i. f (suc i)) (λ i. g (suc i)) (omega arith) e in
    omega (arith, first, shift, rest)
  where
    next : (i : ℕ) → (suc m == suc i) ≡ (m == i)
    next i = grind (arith, nat_tests)

-- the ones of a word are its marks
pub ones_marks : (n z : ℕ) → z < 2 ^ n → ones z ≡ marks_where n (has z)
unfolding marks_where ones ones_in
ones_marks zero z p = let e : z ≡ 0 = omega arith in ap ones e
ones_marks (suc n) z p =
    ones_step z
    ∙ ap₂ (λ d m. d + m) (digit (z % 2) (omega arith) ∙ ap (λ b. cond b 1 0) (sym (has_zero z))) (ones_marks n (z / 2) (omega (arith, pow-succ' 2 n)))
    ∙ ap (λ m. cond (has z 0) 1 0 + m) (marks_same n (has (z / 2)) (λ i. has z (suc i)) (λ i lt. sym (has_suc z i)))
  where
    digit : (d : ℕ) → d < 2 → d ≡ cond (d == 1) 1 0
    digit d p = grind (arith, nat_tests)

pub ones_where : (z : ℕ) (test : ℕ → Bool) → z < 2 ^ width → ((i : ℕ) → i < width → has z i ≡ test i) → ones z ≡ marks_where width test
ones_where z test word same = ones_marks width z word ∙ marks_same width (has z) test same

pub ones_most : (z : ℕ) → z < 2 ^ width → ones z ≤ width
ones_most z word = let all = marks_most width (has z) in omega (arith, ones_marks width z word, all)
