use base.Stored.{Coded-set}
use Rattle.orders.specs.Searches.{priced}
use Rattle.orders.specs.Best.{Best}
use Rattle.orders.specs.Models.{held_to}
use Rattle.orders.proofs.Shown.{best_had, held_laws}
use Rattle.orders.proofs.settled.Settled.answer.Goals as goal

pub returns-clause-best : goal.returns-clause-best
returns-clause-best g c =
    let me = c.args.self.now in
    let s = g.S.Scale.scaling me.marking.scale in
    let told : Best (held_to g.J.Judge.judging me.marking.acts) s c.with_cost.result =
    rw c.with_cost.ensures (best_had _ _ (held_laws _ g.met.J.Judge.keeps_laws me.marking.acts) (Coded-set g.row.S-Cost.coded) (priced s me.held) me.best) in
    told
