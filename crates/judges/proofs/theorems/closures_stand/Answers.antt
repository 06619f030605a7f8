use Rattle.judges.specs.laws.Grounds.{closures}
use Rattle.judges.proofs.theorems.closures_stand.Goals as goal

pub returns : goal.returns
returns c = closures
