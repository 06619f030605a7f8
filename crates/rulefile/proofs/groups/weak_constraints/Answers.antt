use Rattle.std.proofs.Common.{[], ◌++◌, map, sym, ap, ◌∙◌, subst, append-nil, arith, vec_items}
use Rattle.std.specs.List.{filter, AllZip}
use Rattle.std.proofs.lemmas.List.{length-map}
use Rattle.rulefile.specs.Model.{wish_of}
use Rattle.rulefile.specs.WeakConstraints.{IsSingle, IsGroup, is_single, is_larger, untagged_of}
use Rattle.rulefile.proofs.Weak.{all_groups, singles_parts, larger_parts}
use Rattle.rulefile.proofs.groups.weak_constraints.Goals as goal

pub loop-i-init : goal.loop-i-init
loop-i-init c = (
  subst (AllZip IsSingle (vec_items c.in_ok-singles.singles)) (sym (append-nil (untagged_of (map wish_of c.args.wishes.now)))) c.in_ok-singles.ensures,
  subst (λ gs. AllZip IsGroup gs []) (sym c.new-groups.ensures.items) tt,
)

pub loop-i-preserved : goal.loop-i-preserved
loop-i-preserved c = (
  c.in_ok-add_group.ensures.singles (untagged_of (map wish_of c.args.wishes.now)) c.loop-i.invariant.0,
  c.in_ok-add_group.ensures.groups c.loop-i.invariant.1,
)

pub returns-clause-singles : goal.returns-clause-singles
returns-clause-singles c =
    let ws = map wish_of c.args.wishes.now in
    let all = all_groups c.loop-i.i ws (omega (arith, length-map c.args.wishes.now wish_of, c.loop-i-test.false)) in
    subst (AllZip IsSingle (vec_items c.loop-i.singles)) (ap (λ gs. untagged_of ws ++ filter is_single gs) all ∙ sym (singles_parts ws)) c.loop-i.invariant.0

pub returns-clause-groups : goal.returns-clause-groups
returns-clause-groups c =
    let ws = map wish_of c.args.wishes.now in
    let all = all_groups c.loop-i.i ws (omega (arith, length-map c.args.wishes.now wish_of, c.loop-i-test.false)) in
    subst (AllZip IsGroup (vec_items c.loop-i.groups)) (ap (filter is_larger) all ∙ sym (larger_parts ws)) c.loop-i.invariant.1
