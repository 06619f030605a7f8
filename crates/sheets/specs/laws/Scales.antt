-- Lemmas; no contract names what stands here. The laws of the scale that is made of two.
use Rattle.std.specs.Prelude.{◌≡◌, refl}
use Rattle.std.proofs.Common.{ap₂, ◌∙◌, inl, inr, ⊎_elim}
use Rattle.total_order.specs.Orders.{OrderLaws}
use Rattle.total_order.specs.laws.Orders.{order_from, by_rest, by_neither, decides_some, decides_transitive}
use Rattle.sheets.specs.Scaling.{Scaling, ScaleLaws, first_then}

module _ {C D : Type 0} (s : Scaling C) (t : Scaling D) (sl : ScaleLaws s) (tl : ScaleLaws t) where
  pair : (x y : C × D) → (x.0 ≡ y.0) × (x.1 ≡ y.1) → x ≡ y
  pair x y e = ap₂ (λ (c : C) (d : D). (c, d)) e.0 e.1

  first_then_order : OrderLaws (first_then s t).below
  first_then_order = order_from (first_then s t).below
      (λ x y. ⊎_elim inl (⊎_elim (λ e. inr (inl (pair x y e))) (λ u. inr (inr u)))
      (decides_some s.below sl.order x.0 y.0 (t.below x.1 y.1) (t.below y.1 x.1) (tl.order.some x.1 y.1)))
      (λ x. by_rest s.below sl.order x.0 x.0 (t.below x.1 x.1) refl ∙ tl.order.irreflexive x.1)
      (λ x y z. decides_transitive s.below sl.order x.0 y.0 z.0 (t.below x.1 y.1) (t.below y.1 z.1) (t.below x.1 z.1)
      (tl.order.transitive x.1 y.1 z.1))

  pub first_then_laws : ScaleLaws (first_then s t)
  first_then_laws = record {
    order = first_then_order;
    bound = λ p a z part within. by_neither s.below sl.order (s.cost z) (s.floor p a) (t.below (t.cost z) (t.floor p a)) (sl.bound p a z part within) (tl.bound p a z part within);
    exact = λ p a part every. pair (s.floor p a, t.floor p a) (s.cost p, t.cost p) (sl.exact p a part every, tl.exact p a part every);
  }
