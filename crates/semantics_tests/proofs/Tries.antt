-- The worked cases, computed.
use Rattle.std.proofs.Common.{◌≡◌, ℕ, zero, suc, ◌^◌, ◌<◌, true, false, List, [], length, get_or, refl, arith}
use Rattle.std.proofs.lemmas.Bool.{both_ways, ne_eqb}
use Rattle.std.proofs.lemmas.Int.{ints}
use Rattle.std.specs.List.{list_all}
use Rattle.sheets.specs.Sheets.{has}
use Rattle.sheets.specs.laws.Bits.{has_none, marks_below}
use Rattle.rulefile.specs.Model.{RuleModel}
use Rattle.judges.specs.Programs.{Satisfies, rule_holds, reduct, AnswerSet}
use Rattle.judges.specs.Books.{obeys, lawful}
use Rattle.judges.specs.Verdicts.{FirstBroken, FirstUngrounded}
use Rattle.judges.specs.laws.Grounds.{lawful_yes, lawful_from, obeyed}
use Rattle.judges.specs.laws.BookLaws.{inside}
use Rattle.scales.specs.Wishes.{level_cost}
use Rattle.orders.specs.Searches.{present_at, absent_at, none, more}
use Rattle.semantics_tests.specs.Cases.{at_most_one, each_other, if_missing, if_not_missing, budget, two_levels, CasesStand}

-- nothing is in the closure, and mark 0 is in the sheet
ungrounded_zero : (program : List RuleModel) (z : ℕ) → Satisfies z program → list_all (obeys 0) (reduct z program) ≡ true → has z 0 ≡ true → FirstUngrounded program z 0
ungrounded_zero program z s o t = record {
  satisfies = s;
  closure = 0;
  closes = record { obeys = obeyed 0 (reduct z program) o; least = λ _ _ i e. absurd (both_ways (has 0 i) (has_none i) e) };
  first = record { there = t; outside = has_none 0; before = λ i lt. absurd (omega arith) };
}

broken_zero : (program : List RuleModel) (z : ℕ) → 0 < length program → ((d : RuleModel) → rule_holds z (get_or program 0 d) ≡ false) → FirstBroken program z 0
broken_zero program z lt f = record { within = lt; fails = f; before = λ k lt. absurd (omega arith) }

missing : (z : ℕ) → AnswerSet if_missing z → ⊥
unfolding lawful has
missing z a = go z (marks_below 1 z (inside z 1 if_missing ((((omega arith), tt), (((omega arith), tt), tt)), tt) a)) a
  where
    go : (y : ℕ) → y < 2 ^ 1 → AnswerSet if_missing y → ⊥
    go zero lt a = both_ways false refl (lawful_from if_missing 0 a)
    go (suc zero) lt a = both_ways false refl (lawful_from if_missing 1 a)
    go (suc (suc y)) lt a = omega arith

pub cases : CasesStand
unfolding lawful has present_at absent_at
cases = record {
  none_empty = lawful_yes [] 0 refl;
  none_zero = ungrounded_zero [] 1 refl refl refl;
  one_of_two = lawful_yes at_most_one 1 refl;
  both_of_two = broken_zero at_most_one 3 (omega arith) (λ d. refl);
  support_empty = lawful_yes each_other 0 refl;
  support_both = ungrounded_zero each_other 3 refl refl refl;
  missing_empty = broken_zero if_missing 0 (omega arith) (λ d. refl);
  missing_zero = ungrounded_zero if_missing 1 refl refl refl;
  missing_none = missing;
  not_missing_empty = lawful_yes if_not_missing 0 refl;
  not_missing_zero = lawful_yes if_not_missing 1 refl;
  budget_kept = lawful_yes budget 5 refl;
  budget_broken = record { within = omega arith; fails = λ d. refl; before = first };
  levels_apart = record { level = 2; used = refl; less = omega (arith, ints); same = above };
  levels_cheaper = refl;
  shared_one = refl;
  shared_both = refl;
  shared_floor = refl;
  search_steps = more refl (more refl (more refl none));
}
  where
    first : (k : ℕ) → k < 1 → (d : RuleModel) → rule_holds 3 (get_or budget k d) ≡ true
    first zero lt d = refl
    first (suc k) lt d = absurd (omega arith)

    above : (m : ℕ) → 2 < m → level_cost 2 two_levels m ≡ level_cost 1 two_levels m
    above m lt = rw (ne_eqb 2 m (omega arith), ne_eqb 1 m (omega arith))
