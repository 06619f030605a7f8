-- What a scale means, the laws that it keeps, and the scale that is made of two.
use Rattle.std.specs.Prelude.{◌≡◌, Bool, false}
use Rattle.total_order.specs.Orders.{OrderLaws, first_decides}
use Rattle.sheets.specs.Sheets.{Sheet, Part, Within, Full}

-- a cost for each sheet, a floor for each part-sheet, by its present and its absent marks, and an order of costs
pub record Scaling (C : Type 0) : Type 0 where
  pub cost : Sheet → C
  pub floor : Sheet → Sheet → C
  pub below : C → C → Bool

-- what holds of each scale; p and a are the present and the absent marks of a part-sheet
pub record ScaleLaws {C : Type 0} (s : Scaling C) : Type 0 where
  pub order : OrderLaws s.below
  -- a floor is never above the cost of a sheet within
  pub bound : (p a z : Sheet) → Part p a → Within p a z → s.below (s.cost z) (s.floor p a) ≡ false
  -- on a full part-sheet it is that sheet's cost
  pub exact : (p a : Sheet) → Part p a → Full p a → s.floor p a ≡ s.cost p

-- costs and floors are pairs, and the first part is compared before the second
abbrev pub first_then : {C D : Type 0} → Scaling C → Scaling D → Scaling (C × D)
first_then s t = record {
  cost = λ z. (s.cost z, t.cost z);
  floor = λ p a. (s.floor p a, t.floor p a);
  below = λ x y. first_decides s.below x.0 y.0 (t.below x.1 y.1);
}
