-- Two words that stand for a list of literals.
use Rattle.std.specs.Prelude.{◌≡◌, ◌^◌, Bool, true, cond, not, ◌&&◌, List, [], ◌∷◌, ◌==◌, bit_or, nat_lt}
use Rattle.std.specs.List.{list_all, list_any, filter}
use Rattle.sheets.specs.declared.literals.Literal.{Literal}
use Rattle.sheets.specs.declared.literal_sets.LiteralSet.{LiteralSet}
use Rattle.sheets.specs.Sheets.{Mark, Sheet, width, has}

-- each literal names a mark that there is
abbrev pub MarksInWidth : List Literal → Type 0
MarksInWidth ls = list_all (λ l. nat_lt l.mark width) ls ≡ true

-- the literals of a list that name marks that there are
abbrev pub in_width : List Literal → List Literal
in_width ls = filter (λ l. nat_lt l.mark width) ls

-- the literal is mark i
abbrev pub is_plain : Mark → Literal → Bool
is_plain i l = not l.negated && l.mark == i

-- the literal is "not" mark i
abbrev pub is_not : Mark → Literal → Bool
is_not i l = l.negated && l.mark == i

-- the first word has the marks that stand plain in the list, and the second those that stand under "not"
pub record Stands (plain nots : Sheet) (ls : List Literal) : Type 0 where
  pub marks : MarksInWidth ls
  pub plain_marks : (i : Mark) → has plain i ≡ list_any (is_plain i) ls
  pub not_marks : (i : Mark) → has nots i ≡ list_any (is_not i) ls

-- the word of the literal's kind has its mark
abbrev pub has_literal : Sheet → Sheet → Literal → Bool
has_literal plain nots l = cond l.negated (has nots l.mark) (has plain l.mark)

-- no literal stands in the list twice
abbrev pub distinct : List Literal → Bool
distinct [] = true
distinct (l ∷ ls) = not (list_any (cond l.negated (is_not l.mark) (is_plain l.mark)) ls) && distinct ls

-- the word with mark m too; a mark from the width upward changes nothing
abbrev pub with_one : Sheet → Mark → Sheet
with_one word m = cond (nat_lt m width) (bit_or word (2 ^ m)) word

-- the set with one literal more
unfoldable pub with_literal : LiteralSet → Literal → LiteralSet
with_literal s l = record { plain = cond l.negated s.plain (with_one s.plain l.mark); nots = cond l.negated (with_one s.nots l.mark) s.nots }
