use Rattle.scales.specs.laws.Groups.{groups_stand_proof}
use Rattle.scales.proofs.theorems.groups_stand.Goals as goal

pub returns : goal.returns
returns c = groups_stand_proof
