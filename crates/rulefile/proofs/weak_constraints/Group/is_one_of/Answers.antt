use Rattle.std.proofs.Common.{◌+◌, ◌||◌, drop, sym, ap, ◌∙◌, arith}
use Rattle.std.specs.List.{list_all, list_any}
use Rattle.sheets.specs.Literals.{held}
use Rattle.rulefile.specs.WeakConstraints.{IsSetOf}
use Rattle.rulefile.proofs.Weak.{any_from, any_none}
use Rattle.rulefile.proofs.weak_constraints.Group.is_one_of.Goals as goal

pub returns-then-are_all_held : goal.returns-then-are_all_held
returns-then-are_all_held c = λ lists h.
    let test = list_all (held c.args.by) in
    let i = c.loop-set.set-index in
    sym (c.loop-set.invariant lists h ∙ any_from IsSetOf test c.args.sets.now lists i _ h c.loop-set-test.true c.are_all_held.ensures
    ∙ ap (λ b. b || list_any test (drop (i + 1) lists)) c.if-are_all_held.true)

pub loop-set-preserved : goal.loop-set-preserved
loop-set-preserved c = λ lists h.
    let test = list_all (held c.args.by) in
    let i = c.loop-set.set-index in
    c.loop-set.invariant lists h ∙ any_from IsSetOf test c.args.sets.now lists i _ h c.loop-set-test.true c.are_all_held.ensures
    ∙ ap (λ b. b || list_any test (drop (i + 1) lists)) c.if-are_all_held.false

pub returns : goal.returns
returns c = λ lists h. sym (c.loop-set.invariant lists h ∙ any_none IsSetOf (list_all (held c.args.by)) c.args.sets.now lists c.loop-set.set-index h (omega (arith, c.loop-set-test.false)))
