-- The first clause that does not hold.
use Rattle.std.proofs.Common.{◌≡◌, ℕ, ◌+◌, ◌<◌, ◌≤◌, Bool, true, not, cond, Option, Some, None, MatchOption, List, [], ◌∷◌, map, length, refl, ap, sym, ◌∙◌, subst, ⊎_elim, ltb, slice_index_or, arith}
use Rattle.std.specs.List.{position_or_len, list_any}
use Rattle.std.proofs.lemmas.List.{length-map}
use Rattle.std.proofs.lemmas.List.Sums.{fails_before_first, passes_at_first}
use Rattle.std.proofs.lemmas.Bool.{cases_lt, cond-true, cond-false, lt-ltb, le-ltb, not-true, not-false}
use Rattle.sheets.specs.declared.literals.Literal.{Literal}
use Rattle.sheets.specs.declared.literals.Interpretation.{Interpretation}
use Rattle.sheets.specs.Literals.{by_words, held, holds}
use Rattle.rulefile.specs.declared.records.Clause.{Clause}
use Rattle.rulefile.specs.Model.{clause_of}
use Rattle.judges.specs.laws.Breaks.{all_from}
use Rattle.judges.specs.Clauses.{kept, FirstBrokenClause}

module _ {X Y : Type 0} (test : Y → Bool) (f : X → Y) where
  pub position_mapped : (xs : List X) → position_or_len (λ x. test (f x)) xs ≡ position_or_len test (map f xs)
  position_mapped [] = refl
  position_mapped (x ∷ xs) = ap (λ n. cond (not (test (f x))) (1 + n) 0) (position_mapped xs)

abbrev pub Fails : ℕ → List Literal → Bool
Fails z k = not (list_any (holds z) k)

pub first_clause : (clauses : List (List Literal)) (z : ℕ) (r : Option ℕ)
    → r ≡ cond (ltb (position_or_len (Fails z) clauses) (length clauses)) (Some (position_or_len (Fails z) clauses)) None
    → MatchOption r (kept clauses z ≡ true) (FirstBrokenClause clauses z)
first_clause clauses z r e = ⊎_elim
    (λ lt. there (e ∙ cond-true _ _ _ (lt-ltb n (length clauses) lt)) lt)
    (λ ge. none (e ∙ cond-false _ _ _ (le-ltb n (length clauses) ge)) ge)
    (cases_lt n (length clauses))
  where
    n : ℕ
    n = position_or_len (Fails z) clauses

    Goal : Option ℕ → Type 0
    Goal o = MatchOption o (kept clauses z ≡ true) (FirstBrokenClause clauses z)

    there : r ≡ Some n → n < length clauses → Goal r
    there is lt = subst Goal (sym is) (record {
      within = lt;
      fails = λ d. not-true (list_any (holds z) (slice_index_or clauses n d)) (passes_at_first (Fails z) clauses d lt);
      before = λ k below d. not-false (list_any (holds z) (slice_index_or clauses k d)) (fails_before_first (Fails z) clauses k d below);
    })

    none : r ≡ None → length clauses ≤ n → Goal r
    none is ge = subst Goal (sym is) (all_from (list_any (holds z)) clauses
        (λ k lt d. not-false (list_any (holds z) (slice_index_or clauses k d)) (fails_before_first (Fails z) clauses k d (omega arith))))

-- the number that the search of the code finds, by an interpretation of the sheet
pub first_of : (by : Interpretation) (z : ℕ) → by ≡ by_words z z → (clauses : List Clause) (r : Option ℕ)
    → r ≡ cond (ltb (position_or_len (λ x. not (list_any (held by) (clause_of x))) clauses) (length clauses)) (Some (position_or_len (λ x. not (list_any (held by) (clause_of x))) clauses)) None
    → MatchOption r (kept (map clause_of clauses) z ≡ true) (FirstBrokenClause (map clause_of clauses) z)
first_of by z p clauses r e =
    let by_sheet : r ≡ cond (ltb (position_or_len (λ x. Fails z (clause_of x)) clauses) (length clauses)) (Some (position_or_len (λ x. Fails z (clause_of x)) clauses)) None
    = rw p at e in
    first_clause (map clause_of clauses) z r (rw (← position_mapped (Fails z) clause_of clauses, length-map clauses clause_of) by_sheet)
