-- Costs that are equal by `==`.
use Rattle.std.proofs.Common.{◌≡◌, Bool, List, ℤ, Decides, ap}
use Rattle.std.specs.Cmp.Lexicographic.{pointwise}
use Rattle.std.specs.Ordering.{int_eq}
use Rattle.std.proofs.lemmas.Slice.Eq.{slice_eq-Decides}
use Rattle.std.proofs.lemmas.Bool.Decides.{Decides-like, Decides-int_eq}
use Rattle.scales.specs.declared.cost.LevelCost.{LevelCost}

pub equal_costs : (a b : LevelCost) (r : Bool) → r ≡ pointwise int_eq a.levels b.levels → Decides r (a ≡ b)
equal_costs a b r e =
    Decides-like r (λ q. ap (λ (l : List ℤ). record { levels = l }) q) (λ q. ap (λ (k : LevelCost). k.levels) q)
    (slice_eq-Decides Decides-int_eq a.levels b.levels r e)
