-- Lemmas; no contract names what stands here. The laws of the printer's list.
use Rattle.std.specs.Prelude.{◌≡◌, ℕ, ◌^◌, true, not, nat_lt}
use Rattle.std.proofs.Common.{sym, ap, ◌∙◌, ⊎_elim, arith}
use Rattle.std.proofs.lemmas.Bool.{both_ways, or_cases, or_parts, not-true, not-false, lt-ltb, ltb-true}
use Rattle.std.specs.List.{list_all, list_any}
use Rattle.sheets.specs.Sheets.{Part, Within}
use Rattle.sheets.specs.Literals.{held, holds, by_words, in_some}
use Rattle.sheets.specs.Judging.{JudgeLaws}
use Rattle.sheets.specs.laws.Bits.{below_marks, marks_below}
use Rattle.sheets.proofs.Subsets.{subset_le}
use Rattle.sheets.specs.laws.Parts.{full_others, within_itself}
use Rattle.sheets.proofs.Held.{holds_possible}
use Rattle.sheets.proofs.Lists.{any_wider, all_wider}
use Rattle.rulefile.specs.Model.{FileModel}
use Rattle.rulefile.specs.Laws.{Fits}
use Rattle.judges.specs.Clauses.{list_of}

module _ (f : FileModel) (fits : Fits f) where
  dead_sound : (p a z : ℕ) → Part p a → (list_of f).dead p a ≡ true → Within p a z → (list_of f).allows z → ⊥
  dead_sound p a z part dead w al =
      let some = list_all (list_any (held (in_some p a))) f.clauses in
      ⊎_elim
      (λ t.
      let le = subset_le p z w.all in
      let lt = marks_below f.count z al.0 in
      both_ways (nat_lt p (2 ^ f.count)) (not-true (nat_lt p (2 ^ f.count)) t) (lt-ltb p (2 ^ f.count) (omega arith)))
      (λ t. both_ways some (not-true some t)
      (all_wider (list_any (holds z)) (list_any (held (in_some p a))) (any_wider (holds z) (held (in_some p a)) (holds_possible p a z part w)) f.clauses al.1))
      (or_cases (not (nat_lt p (2 ^ f.count))) (not some) dead)

  pub list_laws : JudgeLaws (list_of f)
  list_laws = record {
    some = fits.some;
    few = fits.few;
    inside = λ z al. al.0;
    sound = dead_sound;
    full_dead = λ p a part every dead al. dead_sound p a p part dead (within_itself p a part) al;
    full_allowed = λ p a part every alive.
        let some = list_all (list_any (held (in_some p a))) f.clauses in
        let g = or_parts (not (nat_lt p (2 ^ f.count))) (not some) alive in (
          below_marks f.count p (ltb-true p (2 ^ f.count) (not-false (nat_lt p (2 ^ f.count)) g.0)),
          ap (λ q. list_all (list_any (held (by_words q p))) f.clauses) (sym (full_others p a part every)) ∙ not-false some g.1,
        );
  }
