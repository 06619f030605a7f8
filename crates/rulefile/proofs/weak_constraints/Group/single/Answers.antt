use Rattle.std.proofs.Common.{not, vec_items, sym, ap, ◌∙◌, arith}
use Rattle.std.proofs.lemmas.Bool.{eqb-false}
use Rattle.rulefile.proofs.Weak.{more_members}
use Rattle.rulefile.proofs.weak_constraints.Group.single.Goals as goal

pub returns-else-is_empty : goal.returns-else-is_empty
returns-else-is_empty c = λ m h.
    let some = eqb-false _ 0 (sym c.is_empty.ensures ∙ c.if-is_empty.false) in
    ap not (more_members c.args.self.now.first (vec_items c.args.self.now.others) m h.2 (λ e. some (omega (arith, e, c.args.self.now.others.ok.0))))
