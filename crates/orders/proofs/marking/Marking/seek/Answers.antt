use Rattle.orders.specs.Searches.{none}
use Rattle.orders.proofs.marking.Marking.seek.Goals as goal

-- no step leads to the start
pub invariant_of-result : goal.invariant_of-result
invariant_of-result g c = rw c.start.ensures (record { reached = ∣ (0, none) ∣₁ })
