use Rattle.std.proofs.Common.{refl}
use Rattle.scales.proofs.Costs.{equal_costs}
use Rattle.scales.proofs.theorems.costs_stand.Goals as goal

pub returns : goal.returns
returns c a b = equal_costs a b _ refl
