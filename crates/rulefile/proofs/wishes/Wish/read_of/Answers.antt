use Rattle.std.proofs.Common.{sym, ◌∙◌, vec_items, arith, w16, SFits, rules}
use Rattle.std.proofs.lemmas.Int.{to_z-of_z}
use Rattle.rulefile.specs.Ranges.{top_level, most_wish_literals}
use Rattle.rulefile.proofs.Marks.{literals_in_width}
use Rattle.rulefile.proofs.Sound.{in_range, counted_in_range}
use Rattle.rulefile.proofs.wishes.Wish.read_of.Goals as goal

pub invariant_of-result : goal.invariant_of-result
invariant_of-result c =
    let f : SFits w16 c.from_le_bytes-weight.result = search rules in
    let e = simp to_z-of_z at (sym c.weight_fits.ensures ∙ c.if-not-weight_fits.false) in
    let level = in_range 1 top_level _ c.in_ok-level.ensures.parses in
    let count = counted_in_range 1 most_wish_literals _ _ _ (λ l. l) (vec_items c.in_ok-literals.literals) c.in_ok-n.ensures.parses c.in_ok-literals.ensures.parses in
    let marks = literals_in_width _ _ _ _ (vec_items c.in_ok-literals.literals) (c.in_ok-n.ensures.kept ∙ c.in_ok-bytes.ensures.kept ∙ c.in_ok-tag.ensures.kept ∙ c.in_ok-level.ensures.kept) c.args.body.now.few c.in_ok-literals.ensures.parses in
    record {
      low = level.0;
      high = level.1;
      weighed = simp to_z-of_z e;
      some = omega (arith, c.in_ok-literals.literals.ok.0);
      few = omega (arith, c.in_ok-literals.literals.ok.0);
      marks = marks;
    }
