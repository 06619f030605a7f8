use Rattle.judges.proofs.Picks.{sums}
use Rattle.judges.proofs.theorems.sums_stand.Goals as goal

pub returns : goal.returns
returns c = sums
