use Rattle.std.proofs.Common.{◌+◌, length, vec_items, map, subst, sym, arith}
use Rattle.std.specs.List.{AllZip}
use Rattle.rulefile.specs.Model.{wish_of}
use Rattle.rulefile.specs.WeakConstraints.{IsSingle, IsGroup, is_single, singles_of, larger_of, weak_constraints_of}
use Rattle.scales.specs.Wishes.{weak_floor}
use Rattle.scales.proofs.Steps.{few_singles, few_groups, bounded_wider, none, bounded_zeros, zeros, added_both}
use Rattle.scales.proofs.wishes.level_floors.Goals as goal

pub add_floors-requires-clause-few : goal.add_floors-requires-clause-few
add_floors-requires-clause-few c = few_singles c.args.file.now c.as_slice.result.now c.as_slice.ensures.value

pub add_some_groups-requires-clause-few : goal.add_some_groups-requires-clause-few
add_some_groups-requires-clause-few c = few_groups c.args.file.now c.as_slice-2.result.now c.as_slice-2.ensures.value

pub add_some_groups-requires-clause-room : goal.add_some_groups-requires-clause-room
add_some_groups-requires-clause-room c =
    bounded_wider (0 + length c.as_slice.result.now) 256 c.add_floors.new.sums (omega (arith, few_singles c.args.file.now c.as_slice.result.now c.as_slice.ensures.value)) (c.add_floors.ensures.bounded 0 bounded_zeros)

pub returns : goal.returns
returns c =
    let file = c.args.file.now in
    let ws = map wish_of (vec_items file.wishes) in
    let singles = subst (λ ss. AllZip IsSingle ss (singles_of ws)) (sym c.as_slice.ensures.value) file.ones in
    let groups = subst (λ gs. AllZip IsGroup gs (larger_of ws)) (sym c.as_slice-2.ensures.value) file.larger in
    added_both (weak_floor c.args.part.present c.args.part.absent) is_single (weak_constraints_of ws) none c.add_floors.new.sums c.add_some_groups.new.sums c.add_some_groups.array_long zeros
    (c.add_floors.ensures.added (singles_of ws) singles) (c.add_some_groups.ensures (larger_of ws) groups)
