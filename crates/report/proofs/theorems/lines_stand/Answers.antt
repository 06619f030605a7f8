use Rattle.report.proofs.Written.{lines_stand}
use Rattle.report.proofs.theorems.lines_stand.Goals as goal

pub returns : goal.returns
returns c = lines_stand
