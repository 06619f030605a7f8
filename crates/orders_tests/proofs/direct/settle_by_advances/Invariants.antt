use Rattle.std.proofs.Common.{◌≡◌}
use Rattle.orders_tests.proofs.direct.settle_by_advances.Given as goal

-- the acts, the judge and the scale are those that the search began with
abbrev pub invariant-loop : goal.invariant-loop
invariant-loop g l = l.seeking.marking ≡ l.initial.seeking.marking
