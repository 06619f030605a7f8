use Rattle.std.proofs.Common.{map, take, vec_items}
use Rattle.std.specs.List.{filter, AllZip}
use Rattle.rulefile.specs.Model.{wish_of}
use Rattle.rulefile.specs.WeakConstraints.{IsSingle, alone, is_untagged}
use Rattle.rulefile.proofs.groups.untagged.Given as goal

-- so far, those without a tag
abbrev pub invariant-loop-wish : goal.invariant-loop-wish
invariant-loop-wish l = AllZip IsSingle (vec_items l.all) (map alone (filter is_untagged (map wish_of (take l.wish-index l.wishes))))
