-- What else is said of the texts in the lines.
use Rattle.std.specs.Prelude.{◌≡◌, ℕ, suc, ◌+◌, ◌-◌, ◌*◌, ◌^◌, ◌<◌, true, List, [], ◌∷◌, length, ℤ, pos, negsuc, decimal, unsigned_abs, slice_index, slice_index_or}
use Rattle.std.specs.Fmt.{signed_decimal}
use Rattle.std.specs.Str.{all_ascii_digits}
use Rattle.sheets.specs.Sheets.{width, has}
use Rattle.report.specs.Lines.{marks}

-- the number whose decimal digits are those of n followed by these
abbrev pub value_on : ℕ → List ℕ → ℕ
value_on n [] = n
value_on n (d ∷ ds) = value_on (10 * n + (d - 48)) ds

-- the text is the number in decimal, without leading zeros: there is a digit, all are digits, and the first is 0 only if it is
-- the last (the second 0 of `slice_index_or` is what a list gives beyond its end)
pub record Decimal (n : ℕ) (text : List ℕ) : Type 0 where
  pub some : 0 < length text
  pub digits : all_ascii_digits text ≡ true
  pub value : value_on 0 text ≡ n
  pub plain : slice_index_or text 0 0 ≡ 48 → length text ≡ 1

-- the text is the whole number in decimal: as above from 0 upward, and below 0 a minus, byte 45, and then the number without
-- its sign (`negsuc n` is -(n + 1))
abbrev pub SignedDecimal : ℤ → List ℕ → Type 0
SignedDecimal (pos n) text = Decimal n text
SignedDecimal (negsuc n) text = (digits : List ℕ) × Decimal (suc n) digits × (text ≡ 45 ∷ digits)

-- the list has the marks of the sheet, each once, upward
pub record Upward (z : ℕ) (ms : List ℕ) : Type 0 where
  pub sound : (k : ℕ) → k < length ms → has z (slice_index ms k) ≡ true
  pub complete : (i : ℕ) → i < width → has z i ≡ true → (k : ℕ) × (k < length ms) × (slice_index ms k ≡ i)
  pub rising : (i k : ℕ) → i < k → k < length ms → slice_index ms i < slice_index ms k

-- what the numbers and the marks in the lines of a report are
pub record LinesStand : Type 0 where
  -- what is written of a number of at most 64 bits is the number in decimal, and no other text is
  pub decimals : (n : ℕ) → n < 2 ^ 64 → Decimal n (decimal n)
  pub one_decimal : (n : ℕ) (text : List ℕ) → n < 2 ^ 64 → Decimal n text → text ≡ decimal n
  -- the same of a whole number that without its sign has at most 64 bits
  pub signed : (z : ℤ) → unsigned_abs z < 2 ^ 64 → SignedDecimal z (signed_decimal z)
  pub one_signed : (z : ℤ) (text : List ℕ) → unsigned_abs z < 2 ^ 64 → SignedDecimal z text → text ≡ signed_decimal z
  -- the marks of a sheet are listed upward
  pub upward : (z : ℕ) → Upward z (marks z)
