use Rattle.std.proofs.Common.{◌≡◌, List, drop}
use Rattle.std.specs.List.{list_all, list_any, AllZip}
use Rattle.sheets.specs.declared.literals.Literal.{Literal}
use Rattle.sheets.specs.Literals.{held}
use Rattle.rulefile.specs.WeakConstraints.{IsSetOf}
use Rattle.rulefile.proofs.weak_constraints.Group.is_one_of.Given as goal

-- whether one is held shows in those that are left
abbrev pub invariant-loop-set : goal.invariant-loop-set
invariant-loop-set l = (lists : List (List Literal)) → AllZip IsSetOf l.sets lists → list_any (list_all (held l.by)) lists ≡ list_any (list_all (held l.by)) (drop l.set-index lists)
