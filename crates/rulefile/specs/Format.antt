-- The meaning of a rule file.
use Rattle.std.specs.Prelude.{ℕ, Bool, true, false, zero, suc, ◌-◌, ◌%◌, ◌^◌, cond, List, [], ◌∷◌, length, take, drop, ℤ, pos, negsuc, Some, None, Ok, Err, Option, Result, ◌==◌, nat_le, nat_lt}
use Rattle.sheets.specs.Sheets.{Sheet, Count, width, within_count}
use Rattle.sheets.specs.declared.literals.Literal.{Literal}
use Rattle.rulefile.specs.declared.refusals.Refusal.{Refusal}
use Rattle.rulefile.specs.declared.refusals.Refusal.TheVariants.{FileTooLong, RecordCut, LengthRange, LengthPastEnd, UnknownKind, HeadMisplaced, TooManyOfKind, OutOfRange, MarkRange}
use Rattle.rulefile.specs.declared.refusals.BadFile.{BadFile}
use Rattle.rulefile.specs.declared.constraints.Element.{Element}
use Rattle.rulefile.specs.declared.records.Act.{Act}
use Rattle.rulefile.specs.declared.records.Act.TheVariants.{Pin, Bar, Strike, Undo}
use Rattle.rulefile.specs.declared.records.Kind.{Kind}
use Rattle.rulefile.specs.declared.records.Kind.TheVariants.{Head, Rule, Clause, Wish, Act as ActKind, TaggedWish}
use Rattle.rulefile.specs.Ranges.{most_bytes, most_of_kind, most_constraints, most_elements, most_clause_literals, most_wish_literals, top_level, is_weight, no_high, most_code, not_bit, sheet_bytes, is_length}
use Rattle.rulefile.specs.Numbers.{kind_number, all_kinds}
use Rattle.rulefile.specs.Model.{ConstraintModel, RuleModel, WishModel, FileModel}
use Rattle.rulefile.specs.Lists.{Item, list_for, list_of, with_one}
use Rattle.rulefile.specs.Parser.{Parse, took, fails, Parser, after, ◌>>=◌, ◌>>◌, pure, refuse, check, parsed, bytes, little, field, within, times, wholly}

-- ---- fields

-- a literal byte: the mark in its low seven bits, and `not_bit` is added for "not"
unfoldable pub literal : Count → Parser Literal
literal count = do
  b ← field 1
  check (nat_lt (b % not_bit) count) MarkRange
  pure (record { mark = b % not_bit; negated = nat_le not_bit b })

-- a literal byte, and two bytes for its weight
unfoldable pub element : Count → Parser Element
element count = do
  l ← literal count
  w ← field 2
  pure (record { literal = l; weight = w })

-- the high bound, if there is one
abbrev pub high_of : ℕ → Option ℕ
high_of n = cond (n == no_high) None (Some n)

-- the low bound, the high bound, the number of elements, the elements
unfoldable pub constraint : Count → Parser ConstraintModel
constraint count = do
  low ← field 4
  high ← field 4
  n ← within 0 most_elements
  es ← times n (element count)
  pure (record { low = low; high = high_of high; elements = es })

-- two bytes as a signed number
abbrev pub signed : ℕ → ℤ
signed n = cond (nat_lt n (2 ^ 15)) (pos n) (negsuc (2 ^ 16 - 1 - n))

-- a field of two bytes, read so
unfoldable pub signed_field : Parser ℤ
signed_field = do
  n ← field 2
  pure (signed n)

-- how many bytes a sheet field has, by the count: so many, whatever it is
abbrev pub sheet_length : Count → ℕ
sheet_length count = sheet_bytes

-- so many bytes, bit i for mark i
abbrev pub sheet_field : Count → Parser Sheet
sheet_field count = field (sheet_length count)

-- ---- bodies, by kind: the fields in their order, and no byte after them

-- kind 1: the count of marks, and the house sheet, whose length is by this count
unfoldable pub head_fields : Parser (Count × Sheet)
head_fields = do
  count ← within 1 width
  house ← sheet_field count
  check (within_count count house) MarkRange
  pure (count, house)

-- the same, to the last byte of the body
unfoldable pub head_body : Parser (Count × Sheet)
head_body = wholly head_fields

-- kind 2: the number of body constraints, the head constraint, the body constraints
unfoldable pub rule_fields : Count → Parser RuleModel
rule_fields count = do
  n ← within 0 most_constraints
  h ← constraint count
  ks ← times n (constraint count)
  pure (record { head = h; body = ks })

-- the same, to the last byte of the body
unfoldable pub rule_body : Count → Parser RuleModel
rule_body count = wholly (rule_fields count)

-- kind 3: the number of literals, the literals
unfoldable pub clause_fields : Count → Parser (List Literal)
clause_fields count = do
  n ← within 0 most_clause_literals
  times n (literal count)

-- the same, to the last byte of the body
unfoldable pub clause_body : Count → Parser (List Literal)
clause_body count = wholly (clause_fields count)

-- the tag of a wish: a field of two bytes, if it has one
unfoldable pub tag_field : Bool → Parser (Option ℕ)
tag_field true = do
  t ← field 2
  pure (Some t)
tag_field false = pure None

-- kinds 4 and 7: level, the tag that kind 7 has, weight, the number of literals, the literals
unfoldable pub wish_fields : Bool → Count → Parser WishModel
wish_fields tagged count = do
  level ← within 1 top_level
  tag ← tag_field tagged
  w ← signed_field
  check (is_weight w) OutOfRange
  n ← within 1 most_wish_literals
  ls ← times n (literal count)
  pure (record { level = level; tag = tag; weight = w; literals = ls })

-- the same, to the last byte of the body
unfoldable pub wish_body : Bool → Count → Parser WishModel
wish_body tagged count = wholly (wish_fields tagged count)

-- an act by its code, from 1 to `most_code`
unfoldable pub act_of : Count → ℕ → Parser Act
act_of count code =
    cond (code == 1) (field 1 >>= λ m. pure (Pin m))
    (cond (code == 2) (field 1 >>= λ m. pure (Bar m))
    (cond (code == 3) (sheet_field count >>= λ s. pure (Strike s))
    (pure Undo)))

-- kind 5: the code, and its mark or sheet
unfoldable pub act_fields : Count → Parser Act
act_fields count = within 1 most_code >>= act_of count

-- the same, to the last byte of the body
unfoldable pub act_body : Count → Parser Act
act_body count = wholly (act_fields count)

-- ---- records

-- A record: its kind, and its body. Its length counts both.
unfoldable pub cut : Parser (ℕ × List ℕ)
cut = do
  size ← bytes 4 RecordCut
  check (is_length (little size)) LengthRange
  block ← bytes (little size) LengthPastEnd
  pure (little (take 2 block), drop 2 block)

-- the first of the kinds that has the number
abbrev pub numbered : List Kind → ℕ → Result Kind Refusal
numbered [] n = Err UnknownKind
numbered (k ∷ ks) n = cond (n == kind_number k) (Ok k) (numbered ks n)

-- the kind of a number
abbrev pub kind_of : ℕ → Result Kind Refusal
kind_of = numbered all_kinds

-- where a list has n, one more may be read, up to `most_of_kind`
abbrev pub room_at : ℕ → Result (Unit {0}) Refusal
room_at n = cond (nat_lt n most_of_kind) (Ok tt) (Err TooManyOfKind)

-- one more for a list in which n are: its body is read, and put into the file
abbrev pub adding : {A : Type 0} → ℕ → Parser A → (A → FileModel) → Parser FileModel
adding n p put = do
  parsed (room_at n)
  x ← p
  pure (put x)

-- a file with nothing but its head
abbrev pub head_alone : Count × Sheet → FileModel
head_alone h = record { count = h.0; house = h.1; rules = []; clauses = []; wishes = []; acts = []; kinds = [] }

-- the first record, by its kind, from its body: a head
unfoldable pub first_body : Kind → Parser FileModel
first_body Head = do
  h ← head_body
  pure (head_alone h)
first_body k = refuse HeadMisplaced

-- the body of a later record, by its kind: a head is refused
abbrev pub body_of : (k : Kind) → Count → Parser (Item (list_for k))
body_of Head count = refuse HeadMisplaced
body_of Rule count = rule_body count
body_of Clause count = clause_body count
body_of Wish count = wish_body false count
body_of ActKind count = act_body count
body_of TaggedWish count = wish_body true count

-- a later record, by its kind, from its body: one more for the list of this kind, but for a head
unfoldable pub later_body : FileModel → Kind → Parser FileModel
later_body f Head = refuse HeadMisplaced
later_body f k = adding (length (list_of (list_for k) f)) (body_of k f.count) (with_one k f)

-- the first record, by the number of its kind
unfoldable pub first : ℕ → Parser FileModel
first n = parsed (kind_of n) >>= first_body

-- a later record, by the number of its kind
unfoldable pub later : FileModel → ℕ → Parser FileModel
later f n = parsed (kind_of n) >>= later_body f

-- one record: cut off, and its body read by itself. What p leaves of the body is not looked at, since each body is read
-- to its end (`wholly`).
abbrev pub whole : (ℕ → Parser FileModel) → Parser FileModel
whole p = cut >>= λ r rest. after (p r.0 r.1) (λ f _. took f rest)

-- ---- files

-- a refusal of a file, at the first byte of the record concerned
abbrev pub bad : Refusal → ℕ → Result FileModel BadFile
bad cause offset = Err (record { why = cause; at = offset })

-- what was taken goes on to `go` with the bytes that are left; a refusal is the file's, at the offset
abbrev pub or_refused : ℕ → Parse FileModel → (FileModel → List ℕ → Result FileModel BadFile) → Result FileModel BadFile
or_refused offset (took f rest) go = go f rest
or_refused offset (fails cause) go = bad cause offset

-- The records from a place on. `size` is the length of the file, and n is at least the number of records that are left:
-- each takes a byte or more, so the number of bytes serves. The second line below is never reached.
unfoldable pub records : ℕ → ℕ → FileModel → List ℕ → Result FileModel BadFile
records n size f [] = Ok f
records zero size f (b ∷ bs) = bad RecordCut (size - length (b ∷ bs))
records (suc n) size f (b ∷ bs) = or_refused (size - length (b ∷ bs)) (whole (later f) (b ∷ bs)) (λ g rest. records n size g rest)

-- The meaning of a file: what it holds, or why it is refused and where.
unfoldable pub decode : List ℕ → Result FileModel BadFile
decode bs =
    cond (nat_lt most_bytes (length bs)) (bad FileTooLong 0)
    (or_refused 0 (whole first bs) (records (length bs) (length bs)))

-- What judges and scales take for a file: a refused one stands for a head alone with count 1 and an empty house sheet.
abbrev pub file_or_head_alone : Result FileModel BadFile → FileModel
file_or_head_alone (Ok f) = f
file_or_head_alone (Err b) = head_alone (1, 0)
