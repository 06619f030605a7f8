use Rattle.std.proofs.Common.{vec_items, ap, sym, ◌∙◌, subst, arith}
use Rattle.sheets.specs.LiteralSets.{MarksInWidth}
use Rattle.rulefile.specs.Uniform.{literals_of, AreUniform}
use Rattle.rulefile.specs.Ranges.{most_elements}
use Rattle.rulefile.proofs.Sound.{counted_in_range}
use Rattle.rulefile.proofs.Marks.{elements_in_width, if_some}
use Rattle.rulefile.proofs.body.ConstraintField.read.Goals as goal

pub invariant_of-result : goal.invariant_of-result
invariant_of-result c =
    let count = counted_in_range 0 most_elements _ _ _ (λ e. e) (vec_items c.in_ok-elements.elements) c.in_ok-n.ensures.parses c.in_ok-elements.ensures.parses in
    let marks = elements_in_width _ _ _ _ (vec_items c.in_ok-elements.elements) (c.in_ok-n.ensures.kept ∙ c.in_ok-bytes-2.ensures.kept ∙ c.in_ok-bytes.ensures.kept) c.args.body.now.few c.in_ok-elements.ensures.parses in
    let alike = c.of-uniform.ensures (subst MarksInWidth (ap literals_of (sym c.deref.ensures.value)) marks) in
    record {
      few = omega (arith, c.in_ok-elements.elements.ok.0);
      alike = λ u e. subst (λ es. AreUniform es u) c.deref.ensures.value (if_some (AreUniform _) e alike);
    }
