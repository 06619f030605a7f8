use Rattle.orders.proofs.Visits.{search_ends}
use Rattle.orders.proofs.theorems.search_ends.Goals as goal

pub returns : goal.returns
returns g c = search_ends (g.J.Judge.judging c.args.judge.now) (g.S.Scale.scaling c.args.scale.now) (g.met.J.Judge.keeps_laws c.args.judge.now)
