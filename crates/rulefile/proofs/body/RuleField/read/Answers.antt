use Rattle.std.proofs.Common.{vec_items, arith}
use Rattle.rulefile.specs.Model.{constraint_of}
use Rattle.rulefile.specs.Ranges.{most_constraints}
use Rattle.rulefile.proofs.Sound.{counted_in_range}
use Rattle.rulefile.proofs.body.RuleField.read.Goals as goal

pub invariant_of-result : goal.invariant_of-result
invariant_of-result c =
    let count = counted_in_range 0 most_constraints _ _ _ constraint_of (vec_items c.in_ok-constraints.constraints) c.in_ok-n.ensures.parses c.in_ok-constraints.ensures.parses in
    record { few = omega (arith, c.in_ok-constraints.constraints.ok.0) }
