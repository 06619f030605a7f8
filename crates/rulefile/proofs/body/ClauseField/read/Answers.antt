use Rattle.std.proofs.Common.{vec_items, ap, ◌∙◌, subst, arith}
use Rattle.sheets.specs.LiteralSets.{Stands, in_width}
use Rattle.sheets.proofs.LiteralSets.{all_in_width}
use Rattle.rulefile.specs.Ranges.{most_clause_literals}
use Rattle.rulefile.proofs.Sound.{counted_in_range}
use Rattle.rulefile.proofs.Marks.{literals_in_width}
use Rattle.rulefile.proofs.body.ClauseField.read.Goals as goal

pub invariant_of-result : goal.invariant_of-result
invariant_of-result c =
    let count = counted_in_range 0 most_clause_literals _ _ _ (λ l. l) (vec_items c.in_ok-literals.literals) c.in_ok-n.ensures.parses c.in_ok-literals.ensures.parses in
    let marks = literals_in_width _ _ _ _ (vec_items c.in_ok-literals.literals) c.in_ok-n.ensures.kept c.args.body.now.few c.in_ok-literals.ensures.parses in
    record {
      few = omega (arith, c.in_ok-literals.literals.ok.0);
      same = subst (Stands c.of-set.result.plain c.of-set.result.nots) (ap in_width c.deref.ensures.value ∙ all_in_width _ marks) c.of-set.ensures;
    }
