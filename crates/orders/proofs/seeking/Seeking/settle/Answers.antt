use Rattle.std.proofs.Common.{ap}
use base.Stored.{Coded-set}
use Rattle.orders.proofs.Shown.{reached_best, reached_falls, held_laws}
use Rattle.orders.proofs.seeking.Seeking.settle.Goals as goal

pub returns-clause-search : goal.returns-clause-search
returns-clause-search g c =
    let told = c.begin-walk.ensures in
    record {
      last = c.finish.new.self.search;
      ended = rw (told.judge, told.scale, told.search) at c.finish.ensures.steps;
      its_held = ap (λ w. w.search.held) c.walk.view_is;
    }

pub returns-clause-best : goal.returns-clause-best
returns-clause-best g c =
    let me = c.args.self in
    let ends = returns-clause-search g c in
    rw ends.its_held (reached_best _ _ (held_laws _ g.met.J.Judge.keeps_laws me.marking.acts) (g.met.S.Scale.keeps_laws me.marking.scale) (Coded-set g.row.S-Cost.coded) me.search ends.last me.reached ends.ended)

pub returns-clause-falls : goal.returns-clause-falls
returns-clause-falls g c =
    let me = c.args.self in
    let ends = returns-clause-search g c in
    rw ends.its_held (reached_falls _ _ (held_laws _ g.met.J.Judge.keeps_laws me.marking.acts) (g.met.S.Scale.keeps_laws me.marking.scale) me.search ends.last _ me.reached ends.ended.steps)

pub invariant_of-result : goal.invariant_of-result
invariant_of-result g c =
    let me = c.args.self in
    let told = c.begin-walk.ensures in
    let its_held = ap (λ w. w.search.held) c.walk.view_is in
    record {
      best = ∣ rw its_held (reached_best _ _ (held_laws _ g.met.J.Judge.keeps_laws me.marking.acts) (g.met.S.Scale.keeps_laws me.marking.scale) (Coded-set g.row.S-Cost.coded) me.search c.finish.new.self.search me.reached
          (rw (told.judge, told.scale, told.search) at c.finish.ensures.steps)) ∣₁;
    }
