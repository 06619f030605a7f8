use Rattle.orders.proofs.Dockets.{undo_pop}
use Rattle.orders.proofs.docket.Docket.undo.Goals as goal

pub returns-clause-after : goal.returns-clause-after
returns-clause-after c = undo_pop _ _ _ _ c.pop.ensures.items c.in_ok-ok_or.ensures.ok_part
