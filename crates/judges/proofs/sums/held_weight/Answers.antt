use Rattle.std.proofs.Common.{cond, ◌∙◌, rules, tests}
use Rattle.std.proofs.lemmas.Iterator.{YieldsList-from_slice, YieldsList-from_map}
use Rattle.std.proofs.lemmas.Iterator.Consumers.{sum_by_from_yields_List}
use Rattle.sheets.specs.Literals.{held}
use Rattle.rulefile.specs.declared.constraints.Element.{Element}
use Rattle.judges.proofs.Chains.{weigh_summed}
use Rattle.judges.proofs.sums.held_weight.Goals as goal

pub returns : goal.returns
returns c =
    let p = held c.args.by in
    let w = λ (e : Element). cond (p e.literal) e.weight 0 in
    sum_by_from_yields_List w _ c.map.result _ c.sum.ensures.ran
    (YieldsList-from_map _ w (YieldsList-from_slice c.args.elements.now cc) c.map.ensures.closure (λ x r q k. search (rules, tests)))
    ∙ weigh_summed p c.args.elements.now
