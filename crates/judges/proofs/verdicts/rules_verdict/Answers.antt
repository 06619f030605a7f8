use Rattle.std.proofs.Common.{map, subst}
use Rattle.rulefile.specs.Model.{rule_of}
use Rattle.judges.specs.Programs.{reduct, Closure}
use Rattle.sheets.proofs.Subsets.{same_subset}
use Rattle.judges.proofs.verdicts.rules_verdict.Goals as goal

pub returns-in-None : goal.returns-in-None
returns-in-None c = record {
  satisfies = c.in_default.ensures;
  grounded = subst (Closure (reduct c.args.sheet (map rule_of c.args.rules.now))) (same_subset c.closure.result c.args.sheet c.closure.ensures.within c.in-None.ensures) c.closure.ensures.closes;
}
