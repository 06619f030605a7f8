use Rattle.std.proofs.Common.{ap}
use Rattle.orders.specs.Search.{Search}
use Rattle.orders.specs.Models.{held_to}
use Rattle.orders.proofs.Shown.{reached_on, reached_place, reached_shows, reached_falls, held_laws}
use Rattle.orders.proofs.seeking.Seeking.advance.Goals as goal

pub invariant_of-self : goal.invariant_of-self
invariant_of-self g c =
    let me = c.args.self.now in
    let told = c.begin-walk.ensures in
    record { reached = reached_on _ _ me.search _ _ me.reached (rw (told.judge, told.scale, told.search) at c.take-taken.ensures.steps.steps) }

pub returns-clause-search : goal.returns-clause-search
returns-clause-search g c =
    let me = c.args.self.now in
    let told = c.begin-walk.ensures in
    let walk = c.take-taken.new.self in
    record {
      walked = rw (told.judge, told.scale, told.search) at c.take-taken.ensures.steps;
      shown = record {
        finished = ap (λ (x : Search). x.finished) c.search.view_is;
        present = rw c.count.ensures at c.place.ensures.present;
        absent = rw c.count.ensures at c.place.ensures.absent;
        place = rw (c.place.ensures.present, c.place.ensures.absent, c.count.ensures) (reached_place _ _ (held_laws _ g.met.J.Judge.keeps_laws me.marking.acts) (g.met.S.Scale.keeps_laws me.marking.scale) walk.search (reached_on _ _ me.search walk.search _ me.reached (rw (told.judge, told.scale, told.search) at c.take-taken.ensures.steps.steps)));
        held = rw (c.take-taken.ensures.scale, told.scale) at walk.its_cost;
      };
    }

pub returns-clause-cheapest : goal.returns-clause-cheapest
returns-clause-cheapest g c =
    let me = c.args.self.now in
    let took = returns-clause-search g c in
    let j = held_to g.J.Judge.judging me.marking.acts in
    let s = g.S.Scale.scaling me.marking.scale in
    let after = c.take-taken.new.self.search in
    reached_shows j s (held_laws _ g.met.J.Judge.keeps_laws me.marking.acts) (g.met.S.Scale.keeps_laws me.marking.scale) after _
    (reached_on j s me.search after _ me.reached took.walked.steps) took.shown

pub returns-clause-falls : goal.returns-clause-falls
returns-clause-falls g c =
    let me = c.args.self.now in
    let took = returns-clause-search g c in
    let after = c.take-taken.new.self.search in
    rw took.shown.held (reached_falls _ _ (held_laws _ g.met.J.Judge.keeps_laws me.marking.acts) (g.met.S.Scale.keeps_laws me.marking.scale) me.search after _ me.reached took.walked.steps)
