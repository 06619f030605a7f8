-- Fields of a body, and the numbers that bytes stand for.
use Rattle.std.proofs.Common.{◌≡◌, ℕ, zero, suc, ◌+◌, ◌*◌, List, [], ◌∷◌, ◌++◌, length, get_or, take, drop, sym, refl, ap, ◌∙◌, arith, w16, w32, w64}
use Rattle.std.proofs.lemmas.List.{take_all}
use Rattle.std.specs.Int.{from_le_bytes}
use Rattle.std.proofs.Math.ListN.{replicate}
use Rattle.rulefile.specs.Parser.{little}

little_none : (n : ℕ) → little (take n []) ≡ 0
little_none zero = refl
little_none (suc n) = refl

-- one byte more
little_more : (n k : ℕ) (xs : List ℕ) → little (take (suc n) (drop k xs)) ≡ get_or xs k 0 + little (take n (drop (suc k) xs)) * 256
little_more n zero [] = omega (arith, little_none n)
little_more n zero (x ∷ xs) = refl
little_more n (suc k) [] = omega (arith, little_none n)
little_more n (suc k) (x ∷ xs) = little_more n k xs

pub little_1 : (xs : List ℕ) → little (take 1 xs) ≡ get_or xs 0 0
little_1 xs = omega (arith, little_more 0 0 xs)

pub little_2 : (xs : List ℕ) → little (take 2 xs) ≡ get_or xs 0 0 + get_or xs 1 0 * 256
little_2 xs = omega (arith, little_more 1 0 xs, little_more 0 1 xs)

-- the kind of a record
pub little_4_2 : (xs : List ℕ) → little (take 2 (drop 4 xs)) ≡ get_or xs 4 0 + get_or xs 5 0 * 256
little_4_2 xs = omega (arith, little_more 1 4 xs, little_more 0 5 xs)

pub little_4 : (xs : List ℕ) → little (take 4 xs) ≡ get_or xs 0 0 + get_or xs 1 0 * 256 + get_or xs 2 0 * 65536 + get_or xs 3 0 * 16777216
little_4 xs = omega (arith, little_more 3 0 xs, little_more 2 1 xs, little_more 1 2 xs, little_more 0 3 xs)

pub little_8 : (xs : List ℕ) → little (take 8 xs) ≡ get_or xs 0 0 + get_or xs 1 0 * 256 + get_or xs 2 0 * 65536 + get_or xs 3 0 * 16777216 + get_or xs 4 0 * 4294967296 + get_or xs 5 0 * 1099511627776 + get_or xs 6 0 * 281474976710656 + get_or xs 7 0 * 72057594037927936
little_8 xs = omega (arith, little_more 7 0 xs, little_more 6 1 xs, little_more 5 2 xs, little_more 4 3 xs, little_more 3 4 xs, little_more 2 5 xs, little_more 1 6 xs, little_more 0 7 xs)

-- ---- the same, of bytes that were cut off

pub little_of_1 : (xs : List ℕ) → length xs ≡ 1 → little xs ≡ get_or xs 0 0
little_of_1 xs h = ap little (sym (take_all 1 xs (omega arith))) ∙ little_1 xs

pub little_of_2 : (xs : List ℕ) → length xs ≡ 2 → little xs ≡ from_le_bytes w16 xs
little_of_2 xs h = ap little (sym (take_all 2 xs (omega arith))) ∙ little_2 xs

pub little_of_4 : (xs : List ℕ) → length xs ≡ 4 → little xs ≡ from_le_bytes w32 xs
little_of_4 xs h = ap little (sym (take_all 4 xs (omega arith))) ∙ little_4 xs

pub little_of_8 : (xs : List ℕ) → length xs ≡ 8 → little xs ≡ from_le_bytes w64 xs
little_of_8 xs h = ap little (sym (take_all 8 xs (omega arith))) ∙ little_8 xs

-- zeros behind the bytes change nothing
pub little_zeros : (xs : List ℕ) (n : ℕ) → little (xs ++ replicate n 0) ≡ little xs
little_zeros [] zero = refl
little_zeros [] (suc n) = omega (arith, little_zeros [] n)
little_zeros (x ∷ xs) n = ap (λ m. x + m * 256) (little_zeros xs n)
