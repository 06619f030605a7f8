-- What the texts of numbers and marks are.
use Rattle.std.proofs.Common.{◌≡◌, ℕ, zero, suc, ◌^◌, ◌<◌, Bool, true, false, cond, List, [], ◌∷◌, length, ℤ, pos, negsuc, get_or, decimal, filter, sym, refl, ap, ◌∙◌, arith, rules}
use Rattle.std.specs.List.{range_with_len}
use Rattle.std.specs.Prelude.{unsigned_abs}
use Rattle.std.specs.Fmt.{signed_decimal}
use Rattle.std.specs.Str.{all_ascii_digits}
use Rattle.std.proofs.lemmas.Fmt.{decimal_nonempty, decimal_digit, first_decimal, digits_decimal, digits_value-decimal, decimal-digits_value}
use Rattle.std.proofs.lemmas.Str.Parse.{IsNumeralModel, numerals_by_fold}
use Rattle.std.proofs.lemmas.List.Elements.{All-get_or, filter_passes}
use Rattle.std.proofs.lemmas.List.FromFn.{get_or-range_with_len}
use Rattle.std.proofs.lemmas.List.Kept.{AllPairs-filter}
use Rattle.sheets.specs.Sheets.{width, has}
use Rattle.report.specs.Lines.{marks}
use Rattle.report.specs.Theorems.{value_on, Decimal, SignedDecimal, Upward, LinesStand}

-- ---- numbers

own : IsNumeralModel (λ ds. all_ascii_digits ds ≡ true) (value_on 0)
own = numerals_by_fold _ (search rules) value_on (search rules)

is_decimal : (n : ℕ) → n < 2 ^ 64 → Decimal n (decimal n)
is_decimal n lt = record {
  some = decimal_nonempty n lt;
  digits = digits_decimal own n lt;
  value = digits_value-decimal own n lt;
  plain = λ e. zero_only n lt e;
}
  where
    zero_only : (n : ℕ) → n < 2 ^ 64 → get_or (decimal n) 0 0 ≡ 48 → length (decimal n) ≡ 1
    zero_only zero lt e = ap length (decimal_digit 0 (omega arith))
    zero_only (suc n) lt e = absurd (omega (arith, first_decimal (suc n) (omega arith) lt))

only_decimal : (n : ℕ) (text : List ℕ) → n < 2 ^ 64 → Decimal n text → text ≡ decimal n
only_decimal n text lt d =
    sym (decimal-digits_value own text d.digits d.some d.plain (omega (arith, d.value))) ∙ ap decimal d.value

is_signed : (z : ℤ) → unsigned_abs z < 2 ^ 64 → SignedDecimal z (signed_decimal z)
is_signed (pos n) lt = is_decimal n lt
is_signed (negsuc n) lt = (decimal (suc n), is_decimal (suc n) lt, refl)

only_signed : (z : ℤ) (text : List ℕ) → unsigned_abs z < 2 ^ 64 → SignedDecimal z text → text ≡ signed_decimal z
only_signed (pos n) text lt d = only_decimal n text lt d
only_signed (negsuc n) text lt d = d.2 ∙ ap (λ ds. 45 ∷ ds) (only_decimal (suc n) d.0 lt d.1)

-- ---- marks

-- a filter keeps what passes its test
kept : (p : ℕ → Bool) (xs : List ℕ) (i : ℕ) → i < length xs → p (get_or xs i 0) ≡ true → (k : ℕ) × (k < length (filter p xs)) × (get_or (filter p xs) k 0 ≡ get_or xs i 0)
kept p [] i lt t = absurd (omega arith)
kept p (x ∷ xs) zero lt t = rw t (0, omega arith, refl)
kept p (x ∷ xs) (suc i) lt t = go (p x) (kept p xs i (omega arith) t)
  where
    go : (b : Bool) → (k : ℕ) × (k < length (filter p xs)) × (get_or (filter p xs) k 0 ≡ get_or xs i 0)
        → (k : ℕ) × (k < length (cond b (x ∷ filter p xs) (filter p xs))) × (get_or (cond b (x ∷ filter p xs) (filter p xs)) k 0 ≡ get_or xs i 0)
    go true h = (suc h.0, omega (arith, h.1), h.2)
    go false h = h

-- all marks, upward
abbrev all_marks : List ℕ
all_marks = range_with_len 0 width

rising : (i k : ℕ) (d : ℕ) → i < k → k < length all_marks → get_or all_marks i d < get_or all_marks k d
rising i k d lt within = omega (arith, get_or-range_with_len 0 width i d (omega arith), get_or-range_with_len 0 width k d (omega arith))

upward : (z : ℕ) → Upward z (marks z)
unfolding marks
upward z = record {
  sound = λ k lt. All-get_or (λ m. has z m ≡ true) (filter (has z) all_marks) k 0 lt (filter_passes (has z) all_marks);
  complete = λ i lt t.
      let e : get_or all_marks i 0 ≡ i = omega (arith, get_or-range_with_len 0 width i 0 lt) in
      let h = kept (has z) all_marks i lt (ap (has z) e ∙ t) in
      (h.0, h.1, h.2 ∙ e);
  rising = λ i k lt within. AllPairs-filter (λ x y. x < y) (has z) all_marks rising i k 0 lt within;
}

pub lines_stand : LinesStand
lines_stand = record { decimals = is_decimal; one_decimal = only_decimal; signed = is_signed; one_signed = only_signed; upward = upward }
