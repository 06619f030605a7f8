use Rattle.orders.proofs.Visits.{search_in_order}
use Rattle.orders.proofs.theorems.search_in_order.Goals as goal

pub returns : goal.returns
returns g c = search_in_order (g.J.Judge.judging c.args.judge.now) (g.S.Scale.scaling c.args.scale.now) (g.met.J.Judge.keeps_laws c.args.judge.now) (g.met.S.Scale.keeps_laws c.args.scale.now)
