-- Lemmas; no contract names what stands here. What follows from the laws of a total order, and orders in which a first part
-- decides before the rest.
use Rattle.std.specs.Prelude.{◌≡◌, Bool, true, false, not, ◌&&◌, ◌||◌, ◌⊎◌, nat_lt}
use Rattle.std.proofs.Common.{sym, ap, ap₂, ◌∙◌, inl, inr, ⊎_elim, arith}
use Rattle.std.proofs.lemmas.Bool.{both_ways, cases_Bool, cases_order, or_left, or_from, and_right, lt-ltb, le-ltb, ltb-true}
use Rattle.total_order.specs.Orders.{OrderLaws, first_decides}

-- that not both below and above hold follows from the other laws
pub order_from : {C : Type 0} (below : C → C → Bool) → ((a b : C) → (below a b ≡ true) ⊎ ((a ≡ b) ⊎ (below b a ≡ true)))
    → ((a : C) → below a a ≡ false) → ((a b c : C) → below a b ≡ true → below b c ≡ true → below a c ≡ true) → OrderLaws below
order_from below some irreflexive transitive = record {
  some = some;
  irreflexive = irreflexive;
  asymmetric = λ a b t. ⊎_elim (λ u. absurd (both_ways (below a a) (irreflexive a) (transitive a b a t u))) (λ f. f) (cases_Bool (below b a));
  transitive = transitive;
}

-- numbers in their order
pub number_order : OrderLaws nat_lt
number_order = order_from nat_lt
    (λ a b. ⊎_elim (λ e. inr (inl e)) (⊎_elim (λ l. inl (lt-ltb a b l)) (λ l. inr (inr (lt-ltb b a l)))) (cases_order a b))
    (λ a. le-ltb a a (omega arith))
    (λ a b c t u. lt-ltb a c (omega (arith, ltb-true a b t, ltb-true b c u)))

module _ {C : Type 0} (below : C → C → Bool) (order : OrderLaws below) where
  -- c is at most b, and b is at most a
  pub at_most_trans : (a b c : C) → below a b ≡ false → below b c ≡ false → below a c ≡ false
  at_most_trans a b c ab bc = ⊎_elim (λ t. absurd (go t (order.some b c))) (λ f. f) (cases_Bool (below a c))
    where
      go : below a c ≡ true → (below b c ≡ true) ⊎ ((b ≡ c) ⊎ (below c b ≡ true)) → ⊥
      go t (inl lt) = both_ways (below b c) bc lt
      go t (inr (inl e)) = both_ways (below a b) ab (ap (below a) e ∙ t)
      go t (inr (inr gt)) = both_ways (below a b) ab (order.transitive a c b t gt)

  -- a is below b, and b is at most c
  pub less_at_most : (a b c : C) → below a b ≡ true → below c b ≡ false → below a c ≡ true
  less_at_most a b c ab cb = go (order.some a c)
    where
      go : (below a c ≡ true) ⊎ ((a ≡ c) ⊎ (below c a ≡ true)) → below a c ≡ true
      go (inl lt) = lt
      go (inr (inl e)) = absurd (both_ways (below c b) cb (ap (λ x. below x b) (sym e) ∙ ab))
      go (inr (inr gt)) = absurd (both_ways (below c b) cb (order.transitive c a b gt ab))

  -- ---- a first part, and the rest

  pub by_first : (x y : C) (rest : Bool) → below x y ≡ true → first_decides below x y rest ≡ true
  by_first x y rest t = or_left (below x y) (not (below y x) && rest) t

  pub by_rest : (x y : C) (rest : Bool) → x ≡ y → first_decides below x y rest ≡ rest
  by_rest x y rest e = ap₂ (λ u v. u || (not v && rest)) (ap (λ (z : C). below z y) e ∙ order.irreflexive y) (ap (below y) e ∙ order.irreflexive y)

  pub by_above : (x y : C) (rest : Bool) → below y x ≡ true → first_decides below x y rest ≡ false
  by_above x y rest t = ap₂ (λ u v. u || (not v && rest)) (order.asymmetric y x t) t

  pub by_neither : (x y : C) (rest : Bool) → below x y ≡ false → rest ≡ false → first_decides below x y rest ≡ false
  by_neither x y rest f g = or_from (below x y) (not (below y x) && rest) f (and_right (not (below y x)) rest g)

  -- the first part is below, or it is the same and the rest is below
  pub ways : (x y : C) (rest : Bool) → first_decides below x y rest ≡ true → (below x y ≡ true) ⊎ ((x ≡ y) × (rest ≡ true))
  ways x y rest t = ⊎_elim inl
      (⊎_elim (λ e. inr (e, sym (by_rest x y rest e) ∙ t)) (λ u. absurd (both_ways (first_decides below x y rest) (by_above x y rest u) t)))
      (order.some x y)

  -- b and b' say whether the rest is below and above, and E that it is the same
  pub decides_some : (x y : C) (b b' : Bool) {E : Type 0} → (b ≡ true) ⊎ (E ⊎ (b' ≡ true))
      → (first_decides below x y b ≡ true) ⊎ (((x ≡ y) × E) ⊎ (first_decides below y x b' ≡ true))
  decides_some x y b b' {E} = go (order.some x y)
    where
      go : (below x y ≡ true) ⊎ ((x ≡ y) ⊎ (below y x ≡ true)) → (b ≡ true) ⊎ (E ⊎ (b' ≡ true))
          → (first_decides below x y b ≡ true) ⊎ (((x ≡ y) × E) ⊎ (first_decides below y x b' ≡ true))
      go (inl t) rest = inl (by_first x y b t)
      go (inr (inr t)) rest = inr (inr (by_first y x b' t))
      go (inr (inl e)) (inl t) = inl (by_rest x y b e ∙ t)
      go (inr (inl e)) (inr (inl f)) = inr (inl (e, f))
      go (inr (inl e)) (inr (inr t)) = inr (inr (by_rest y x b' (sym e) ∙ t))

  pub decides_transitive : (x y z : C) (b c d : Bool) → (b ≡ true → c ≡ true → d ≡ true)
      → first_decides below x y b ≡ true → first_decides below y z c ≡ true → first_decides below x z d ≡ true
  decides_transitive x y z b c d chain t u = go (ways x y b t) (ways y z c u)
    where
      go : (below x y ≡ true) ⊎ ((x ≡ y) × (b ≡ true)) → (below y z ≡ true) ⊎ ((y ≡ z) × (c ≡ true)) → first_decides below x z d ≡ true
      go (inl v) (inl w) = by_first x z d (order.transitive x y z v w)
      go (inl v) (inr e) = by_first x z d (ap (below x) (sym e.0) ∙ v)
      go (inr e) (inl w) = by_first x z d (ap (λ (i : C). below i z) e.0 ∙ w)
      go (inr e) (inr f) = by_rest x z d (e.0 ∙ f.0) ∙ chain e.1 f.1
