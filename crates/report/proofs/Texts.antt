-- The texts of lists, piece by piece.
use Rattle.std.proofs.Common.{◌≡◌, ℕ, zero, suc, ◌+◌, ◌-◌, ◌*◌, ◌<◌, ◌≤◌, true, false, List, [], ◌∷◌, ◌++◌, ℤ, decimal, filter, length, ap, arith}
use Rattle.std.specs.List.{All, range_with_len}
use Rattle.std.proofs.lemmas.List.Concat.{length-flat_map}
use Rattle.std.proofs.lemmas.List.Sums.{sum_by-le}
use Rattle.std.specs.Fmt.{signed_decimal}
use Rattle.sheets.specs.Sheets.{width, has}
use Rattle.scales.specs.Wishes.{down_from, cost_at}
use Rattle.report.specs.Lines.{spaced}

-- each text has at most k bytes
pub length-spaced-le : {A : Type 0} (text : A → List ℕ) (k : ℕ) (xs : List A) → All (λ x. length (text x) ≤ k) xs → length (spaced text xs) ≤ length xs * (k + 1)
unfolding spaced
length-spaced-le text k xs short =
    omega (arith, length-flat_map (λ x. 32 ∷ text x) xs, sum_by-le (λ x. suc (length (text x))) (k + 1) xs (λ i d lt. omega (arith, short i d lt)))

-- ---- marks

-- the text of the marks from i upward
unfoldable pub marks_left : ℕ → ℕ → List ℕ
marks_left z i = spaced decimal (filter (has z) (range_with_len i (width - i)))

module _ (z i : ℕ) (lt : i < width) where
  one_less : width - i ≡ suc (width - (i + 1))
  one_less = omega arith

  pub marks_left_there : has z i ≡ true → marks_left z i ≡ (32 ∷ []) ++ (decimal i ++ marks_left z (i + 1))
  unfolding marks_left spaced
  marks_left_there t = rw (one_less, t)

  pub marks_left_missing : has z i ≡ false → marks_left z i ≡ marks_left z (i + 1)
  unfolding marks_left
  marks_left_missing f = rw (one_less, f)

pub marks_left_none : (z i : ℕ) → width ≤ i → marks_left z i ≡ []
unfolding marks_left spaced
marks_left_none z i le = let e : width - i ≡ 0 = omega arith in ap (λ (k : ℕ). spaced decimal (filter (has z) (range_with_len i k))) e

-- ---- levels

-- the text of the costs at level n and below
unfoldable pub levels_left : List ℤ → ℕ → List ℕ
levels_left levels n = spaced signed_decimal (down_from n (cost_at levels))

pub levels_left_more : (levels : List ℤ) (n : ℕ) → 1 ≤ n → levels_left levels n ≡ (32 ∷ []) ++ (signed_decimal (cost_at levels n) ++ levels_left levels (n - 1))
unfolding levels_left spaced
levels_left_more levels zero le = absurd (omega arith)
levels_left_more levels (suc n) le =
    let e : n ≡ suc n - 1 = omega arith in
    ap (λ (m : ℕ). 32 ∷ (signed_decimal (cost_at levels (suc n)) ++ levels_left levels m)) e

pub levels_left_none : (levels : List ℤ) (n : ℕ) → n < 1 → levels_left levels n ≡ []
unfolding levels_left spaced
levels_left_none levels n lt = let e : n ≡ 0 = omega arith in ap (levels_left levels) e
