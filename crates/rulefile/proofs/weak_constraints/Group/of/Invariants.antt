use Rattle.std.proofs.Common.{map, take, vec_items}
use Rattle.std.specs.List.{filter, AllZip}
use Rattle.rulefile.specs.Model.{WishModel, wish_of}
use Rattle.rulefile.specs.WeakConstraints.{IsSetOf, has_key}
use Rattle.rulefile.proofs.weak_constraints.Group.of.Given as goal

-- so far, the sets of those that have the key
abbrev pub invariant-loop-other : goal.invariant-loop-other
invariant-loop-other l = AllZip IsSetOf (vec_items l.others) (map (λ (w : WishModel). w.literals) (filter (has_key l.key) (map wish_of (take l.other-index l.later))))
