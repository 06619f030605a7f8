-- What a literal says of a sheet.
use Rattle.std.specs.Prelude.{◌≡◌, Bool, true, cond, not}
use Rattle.sheets.specs.declared.literals.Literal.{Literal}
use Rattle.sheets.specs.declared.literals.Interpretation.{Interpretation}
use Rattle.sheets.specs.Sheets.{Sheet, has, others}

-- what literals are judged by: plain marks are looked up in the first sheet, and marks of "not" in the second
abbrev pub by_words : Sheet → Sheet → Interpretation
by_words plain negated = record { plain = plain; negated = negated }

-- by the present marks p and the absent marks a: what is held in every sheet within
abbrev pub in_every : Sheet → Sheet → Interpretation
in_every p a = by_words p (others a)

-- and what is held in some sheet within
abbrev pub in_some : Sheet → Sheet → Interpretation
in_some p a = by_words (others a) p

-- the mark is there, or for "not" is missing
abbrev pub held : Interpretation → Literal → Bool
held by l = cond l.negated (not (has by.negated l.mark)) (has by.plain l.mark)

-- the literal holds in the sheet z
abbrev pub holds : Sheet → Literal → Bool
holds z = held (by_words z z)

-- the same as a fact
abbrev pub Holds : Sheet → Literal → Type 0
Holds z l = holds z l ≡ true
