use Rattle.std.proofs.Common.{◌++◌, map, vec_items}
use Rattle.std.specs.List.{filter, AllZip}
use Rattle.rulefile.specs.Model.{wish_of}
use Rattle.rulefile.specs.WeakConstraints.{IsSingle, IsGroup, is_single, is_larger, untagged_of, first_groups}
use Rattle.rulefile.proofs.groups.weak_constraints.Given as goal

-- so far, the groups that begin among the first
abbrev pub invariant-loop-i : goal.invariant-loop-i
invariant-loop-i l =
    AllZip IsSingle (vec_items l.singles) (untagged_of (map wish_of l.wishes) ++ filter is_single (first_groups l.i (map wish_of l.wishes)))
    × AllZip IsGroup (vec_items l.groups) (filter is_larger (first_groups l.i (map wish_of l.wishes)))
