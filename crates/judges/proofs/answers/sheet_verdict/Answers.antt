use Rattle.std.proofs.Common.{◌≡◌, ℕ, Ok, Err, refl, ap, subst, arith}
use Rattle.std.proofs.lemmas.Bool.{both_ways}
use Rattle.sheets.specs.Sheets.{MarksBelow}
use Rattle.rulefile.specs.Model.{FileModel}
use Rattle.judges.specs.declared.verdicts.Verdict.{Verdict}
use Rattle.judges.specs.declared.verdicts.Refusal.TheVariants.{MarkRange}
use Rattle.judges.specs.Verdicts.{Says, Judged}
use Rattle.judges.specs.laws.Grounds.{says_one}
use Rattle.judges.proofs.answers.sheet_verdict.Goals as goal

refused : (f : FileModel) (z : ℕ) → (MarksBelow f.count z → ⊥) → Judged f z (Err MarkRange)
refused f z no_mark = record {
  refused = λ _. no_mark;
  refuses = λ _. refl;
  says = λ v e. let x : ◌≡◌ {A = ℕ} 0 1 = cc in absurd (omega arith);
  said = λ v below _. absurd (no_mark below);
}

given : (f : FileModel) (z : ℕ) (w : Verdict) → MarksBelow f.count z → Says f.rules z w → Judged f z (Ok w)
given f z w below says = record {
  refused = λ e _. let x : ◌≡◌ {A = ℕ} 0 1 = cc in omega arith;
  refuses = λ no_mark. absurd (no_mark below);
  says = λ v e. subst (Says f.rules z) (let h : w ≡ v = cc in h) says;
  said = λ v _ other. ap Ok (says_one f.rules z w v says other);
}

pub returns : goal.returns
returns c =
    given _ _ c.rules_verdict.result (c.within_count.ensures.meaning.0 c.if-not-within_count.false)
    (rw (← c.as_slice.ensures.value) c.rules_verdict.ensures)

pub returns-then-not-within_count : goal.returns-then-not-within_count
returns-then-not-within_count c = refused _ _ (λ below. both_ways c.within_count.result c.if-not-within_count.true (c.within_count.ensures.meaning.1 below))
