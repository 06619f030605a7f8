use Rattle.std.proofs.Common.{◌≡◌}
use Rattle.orders.specs.Searches.{dismissed}
use Rattle.orders.proofs.search.Search.dismiss.Given as goal

-- dismissing what is left comes to the same
abbrev pub invariant-loop-last : goal.invariant-loop-last
invariant-loop-last l = dismissed l.last l.present l.held ≡ dismissed l.fn.self.depth l.fn.self.present l.held
