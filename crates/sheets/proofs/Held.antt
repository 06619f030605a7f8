-- Literals that are held, and what a part-sheet says of those that hold in the sheets within it.
use Rattle.std.proofs.Common.{◌≡◌, ℕ, Bool, true, false, cond, not, ap, ⊎_elim}
use Rattle.std.proofs.lemmas.Bool.{both_ways, cases_Bool, not-true}
use Rattle.sheets.specs.declared.literals.Literal.{Literal}
use Rattle.sheets.specs.Sheets.{has, others, Subset, Part, Within}
use Rattle.sheets.specs.Literals.{held, Holds, by_words, in_every, in_some}
use Rattle.sheets.specs.laws.Parts.{subset_others}

-- with more marks there, and fewer among which "not" looks, no less is held
pub held_wider : (x x' y y' : ℕ) → Subset x x' → Subset y' y → (l : Literal) → held (by_words x y) l ≡ true → held (by_words x' y') l ≡ true
held_wider x x' y y' more fewer l = go l.negated
  where
    go : (b : Bool) → cond b (not (has y l.mark)) (has x l.mark) ≡ true → cond b (not (has y' l.mark)) (has x' l.mark) ≡ true
    go true e = ap not (⊎_elim (λ t. absurd (both_ways (has y l.mark) (not-true (has y l.mark) e) (fewer l.mark t))) (λ f. f) (cases_Bool (has y' l.mark)))
    go false e = more l.mark e

-- what is held by the present marks, and for "not" among those that are not absent, holds in every sheet within;
-- what holds in a sheet within is held by the marks that are not absent, and for "not" among the present ones
module _ (p a z : ℕ) (part : Part p a) (within : Within p a z) where
  not_absent : Subset z (others a)
  not_absent = subset_others a z part.absent_word within.word within.none

  pub sure_holds : (l : Literal) → held (in_every p a) l ≡ true → Holds z l
  sure_holds = held_wider p z (others a) z within.all not_absent

  pub holds_possible : (l : Literal) → Holds z l → held (in_some p a) l ≡ true
  holds_possible = held_wider z (others a) z p not_absent within.all
