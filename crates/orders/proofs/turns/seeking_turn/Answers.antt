use Rattle.std.proofs.Common.{refl, ap}
use Rattle.orders.specs.Models.{acts_of}
use Rattle.orders.proofs.turns.seeking_turn.Goals as goal

pub returns-in-Advance : goal.returns-in-Advance
returns-in-Advance g c =
    let told = c.advance-progress.ensures in
    rw c.in-Advance.is (record {
      turn = record { from = refl; to = refl; acts = ap (λ m. acts_of m.acts) told.marking; decided = tt; searches = (c.advance-progress.result, refl, told.search, told.cheapest) };
      judge = ap (λ m. m.acts.judge) told.marking;
      scale = ap (λ m. m.scale) told.marking;
    })
