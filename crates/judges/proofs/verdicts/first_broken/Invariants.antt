use Rattle.std.proofs.Common.{◌≡◌, map, drop, vec_items}
use Rattle.rulefile.specs.Model.{constraint_of, rule_of}
use Rattle.std.specs.List.{list_all}
use Rattle.judges.specs.Programs.{satisfied}
use Rattle.judges.specs.laws.Breaks.{HeldBelow}
use Rattle.judges.proofs.verdicts.first_broken.Given as goal

abbrev pub invariant-body : goal.invariant-body
invariant-body l =
    list_all (satisfied l.sheet) (map constraint_of (drop l.constraint-index (vec_items l.rule.body))) ≡ list_all (satisfied l.sheet) (map constraint_of (vec_items l.rule.body))

abbrev pub invariant-rules : goal.invariant-rules
invariant-rules l = HeldBelow l.sheet (map rule_of l.rules) l.number
