use Rattle.std.proofs.Common.{map, vec_items, sym, ◌∙◌, arith}
use Rattle.std.proofs.lemmas.List.{length-map}
use Rattle.rulefile.specs.Model.{constraint_of, rule_of}
use Rattle.judges.specs.Programs.{satisfied, rule_holds}
use Rattle.judges.proofs.Steps.{all_hit, all_miss, all_none}
use Rattle.judges.specs.laws.Breaks.{all_from, more_by_head, more_by_body, breaks_here}
use Rattle.judges.proofs.verdicts.first_broken.Goals as goal

pub rules-preserved-then-not-is_satisfied : goal.rules-preserved-then-not-is_satisfied
rules-preserved-then-not-is_satisfied c =
    more_by_body c.args.sheet c.args.rules.now c.rules.number c.index-rules-number.result c.rules-test.true c.index-rules-number.is c.rules.invariant
    (sym c.body.invariant ∙ all_miss (satisfied c.args.sheet) constraint_of (vec_items c.index-rules-number.result.body) c.as_slice-constraint-items.result.now c.as_slice-constraint-items.ensures.value
    c.body.constraint-index c.constraint-item.result c.body-test.true c.constraint-item.is (sym c.if-not-is_satisfied.ensures))

pub body-preserved : goal.body-preserved
body-preserved c =
    all_hit (satisfied c.args.sheet) constraint_of (vec_items c.index-rules-number.result.body) c.as_slice-constraint-items.result.now c.as_slice-constraint-items.ensures.value
    c.body.constraint-index c.constraint-item.result c.body-test.true c.constraint-item.is (sym c.if-not-is_satisfied.ensures)
    ∙ c.body.invariant

pub rules-preserved : goal.rules-preserved
rules-preserved c =
    more_by_head c.args.sheet c.args.rules.now c.rules.number c.index-rules-number.result c.rules-test.true c.index-rules-number.is c.rules.invariant
    (sym c.if-not-is_satisfied-2.ensures)

pub returns-then-not-is_satisfied-2 : goal.returns-then-not-is_satisfied-2
returns-then-not-is_satisfied-2 c =
    breaks_here c.args.sheet c.args.rules.now c.rules.number c.index-rules-number.result c.rules-test.true c.index-rules-number.is
    (sym (length-map c.args.rules.now rule_of)) c.rules.invariant (sym c.if-not-is_satisfied-2.ensures)
    (sym c.body.invariant ∙ all_none (satisfied c.args.sheet) constraint_of (vec_items c.index-rules-number.result.body) c.as_slice-constraint-items.result.now c.as_slice-constraint-items.ensures.value
    c.body.constraint-index c.body-test.false)

pub returns-after-rules : goal.returns-after-rules
returns-after-rules c =
    all_from (rule_holds c.args.sheet) (map rule_of c.args.rules.now) (λ k lt d. c.rules.invariant k (omega (arith, length-map c.args.rules.now rule_of)) d)
