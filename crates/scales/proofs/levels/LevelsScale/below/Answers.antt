use Rattle.scales.specs.laws.Orders.{less_tested}
use Rattle.scales.proofs.levels.LevelsScale.below.Goals as goal

pub returns : goal.returns
returns c = less_tested c.args.a.levels c.args.b.levels c.lt.result c.lt.ensures
