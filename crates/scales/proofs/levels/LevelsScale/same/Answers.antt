use Rattle.scales.proofs.Costs.{equal_costs}
use Rattle.scales.proofs.levels.LevelsScale.same.Goals as goal

pub returns : goal.returns
returns c = equal_costs c.args.a c.args.b c.eq.result c.eq.ensures
