use Rattle.std.proofs.Common.{vec_items, sym, ◌∙◌}
use Rattle.sheets.specs.Literals.{held}
use Rattle.judges.proofs.Chains.{weigh_summed}
use Rattle.judges.proofs.sums.sum.Goals as goal

pub returns-in-Some : goal.returns-in-Some
returns-in-Some c =
    let es = vec_items c.args.constraint.now.elements in
    c.sum.ensures es (c.args.constraint.now.alike c.in-Some.uniform (sym c.in-Some.ensures)) ∙ weigh_summed (held c.args.by) es
