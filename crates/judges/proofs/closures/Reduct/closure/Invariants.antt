use Rattle.std.proofs.Common.{◌-◌, map}
use Rattle.rulefile.specs.Model.{rule_of}
use Rattle.judges.specs.laws.Reached.{Underway}
use Rattle.judges.proofs.closures.Reduct.closure.Given as goal

abbrev pub invariant-loop-reached : goal.invariant-loop-reached
invariant-loop-reached l = Underway l.self.sheet (map rule_of l.self.rules.now) l.reached

abbrev pub decreases-loop-reached : goal.decreases-loop-reached
decreases-loop-reached l = l.self.sheet - l.reached
