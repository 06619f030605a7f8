-- Lemmas; no contract names what stands here. What weak constraints cost: floors, the sums of a level, the
-- laws of levels, and domination.
use Rattle.std.specs.Prelude.{◌≡◌, ℕ, ◌-◌, ◌<◌, ◌≤◌, Bool, true, false, cond, ◌&&◌, ◌||◌, List, [], ◌∷◌, map, ℤ, pos, ◌+ℤ◌, ◌≤ℤ◌, Decides, ◌==◌, nat_le, slice_index_or, refl}
use Rattle.std.proofs.Common.{sym, ap, ap₂, ◌∙◌, inl, inr, ⊎_elim, arith}
use Rattle.std.specs.Int.{int_min}
use Rattle.std.proofs.lemmas.Int.{ints, clamps}
use Rattle.std.proofs.lemmas.Bool.{both_ways, cases_Bool, cond_both, and_from, and_parts, or_cases, or_right, leb-true, le-leb, eqb-true}
use Rattle.std.specs.List.{list_all, list_any}
use Rattle.sheets.specs.Sheets.{Part, Within, Full}
use Rattle.sheets.specs.Literals.{held, holds, by_words, in_every, in_some}
use Rattle.sheets.specs.Scaling.{ScaleLaws}
use Rattle.sheets.specs.laws.Parts.{full_others}
use Rattle.sheets.proofs.Held.{sure_holds, holds_possible}
use Rattle.sheets.proofs.Lists.{all_wider}
use Rattle.total_order.specs.laws.Orders.{order_from}
use Rattle.rulefile.specs.declared.wishes.Wish.{Wish}
use Rattle.rulefile.specs.Model.{WishModel, wish_of}
use Rattle.rulefile.specs.WeakConstraints.{WeakModel, weak_constraints_of}
use Rattle.scales.specs.declared.cost.LevelCost.{LevelCost}
use Rattle.scales.specs.Wishes.{one_held, weak_cost, weak_floor, sum_at, level_cost, level_floor, top, down_from, cost_at, Dominates}
use Rattle.scales.specs.Levels.{levels_of, cheaper}
use Rattle.scales.specs.laws.Groups.{weak_unused}
use Rattle.scales.specs.laws.Orders.{less_order, down_above, down_same, down_at, Decided, decided, decided_less}

-- ---- one weak constraint

-- what is sure holds, and what holds is possible
floor_least : (sure possible actual : Bool) (w : ℤ) → (sure ≡ true → actual ≡ true) → (actual ≡ true → possible ≡ true)
    → cond sure w (cond possible (int_min w (pos 0)) (pos 0)) ≤ℤ cond actual w (pos 0)
floor_least true possible true w h k = omega (arith, ints)
floor_least true possible false w h k = absurd (both_ways false refl (h refl))
floor_least false true true w h k = omega (arith, ints, clamps)
floor_least false true false w h k = omega (arith, ints, clamps)
floor_least false false true w h k = absurd (both_ways false refl (k refl))
floor_least false false false w h k = omega (arith, ints)

-- where each member that passes p passes q, some member passes q if one passes p
any_wider : {A : Type 0} (p q : A → Bool) → ((x : A) → p x ≡ true → q x ≡ true) → (xs : List A) → list_any p xs ≡ true → list_any q xs ≡ true
any_wider p q wider [] h = h
any_wider p q wider (x ∷ xs) h = ⊎_elim
    (λ t. ap (λ b. b || list_any q xs) (wider x t))
    (λ t. or_right (q x) (list_any q xs) (any_wider p q wider xs t))
    (or_cases (p x) (list_any p xs) h)

floor_le : (p a z : ℕ) → Part p a → Within p a z → (c : WeakModel) → weak_floor p a c ≤ℤ weak_cost z c
floor_le p a z part within c =
    floor_least (one_held (in_every p a) c) (one_held (in_some p a) c) (one_held (by_words z z) c) c.weight
    (any_wider (list_all (held (in_every p a))) (list_all (holds z)) (all_wider (held (in_every p a)) (holds z) (sure_holds p a z part within)) c.members)
    (any_wider (list_all (holds z)) (list_all (held (in_some p a))) (all_wider (holds z) (held (in_some p a)) (holds_possible p a z part within)) c.members)

floor_full : (p a : ℕ) → Part p a → Full p a → (c : WeakModel) → weak_floor p a c ≡ weak_cost p c
floor_full p a part every c =
    ap (λ q. cond (one_held (by_words p q) c) c.weight (cond (one_held (by_words q p) c) (int_min c.weight (pos 0)) (pos 0))) (full_others p a part every)
    ∙ go (one_held (by_words p p) c)
  where
    go : (b : Bool) → cond b c.weight (cond b (int_min c.weight (pos 0)) (pos 0)) ≡ cond b c.weight (pos 0)
    go true = refl
    go false = refl

-- ---- the weak constraints of a level

module _ (f g : WeakModel → ℤ) where
  sum_le : ((c : WeakModel) → f c ≤ℤ g c) → (cs : List WeakModel) (n : ℕ) → sum_at f cs n ≤ℤ sum_at g cs n
  sum_le le [] n = omega (arith, ints)
  sum_le le (c ∷ cs) n = go (c.level == n) (sum_le le cs n)
    where
      go : (b : Bool) → sum_at f cs n ≤ℤ sum_at g cs n → (cond b (f c) (pos 0) +ℤ sum_at f cs n) ≤ℤ (cond b (g c) (pos 0) +ℤ sum_at g cs n)
      go true rest = omega (arith, ints, le c)
      go false rest = omega (arith, ints)

  sum_same : ((c : WeakModel) → f c ≡ g c) → (cs : List WeakModel) (n : ℕ) → sum_at f cs n ≡ sum_at g cs n
  sum_same same [] n = refl
  sum_same same (c ∷ cs) n = ap₂ (λ x y. cond (c.level == n) x (pos 0) +ℤ y) (same c) (sum_same same cs n)

-- the levels of the wishes that a file holds
used_range : (wishes : List Wish) (n : ℕ) → list_any (λ w. w.level == n) (map wish_of wishes) ≡ true → (1 ≤ n) × (n ≤ top)
used_range [] n t = absurd (both_ways false refl t)
used_range (w ∷ ws) n t = ⊎_elim
    (λ e. let q = eqb-true w.level n e in (omega (arith, w.low), omega (arith, w.high)))
    (used_range ws n)
    (or_cases (w.level == n) (list_any (λ w. w.level == n) (map wish_of ws)) t)

no_level : (f : WeakModel → ℤ) (wishes : List Wish) (n : ℕ) → ((1 ≤ n) × (n ≤ top) → ⊥) → sum_at f (weak_constraints_of (map wish_of wishes)) n ≡ pos 0
no_level f wishes n out = ⊎_elim (λ t. absurd (out (used_range wishes n t))) (weak_unused f n (map wish_of wishes)) (cases_Bool (list_any (λ w. w.level == n) (map wish_of wishes)))

-- ---- the laws

cost_from : {a b : List ℤ} → a ≡ b → ◌≡◌ {A = LevelCost} (record { levels = a }) (record { levels = b })
cost_from e = ap (λ (l : List ℤ). record { levels = l }) e

pub levels_laws : (ws : List WishModel) → ScaleLaws (levels_of ws)
levels_laws ws = record {
  order = order_from (levels_of ws).below
      (λ a b. ⊎_elim inl (⊎_elim (λ e. inr (inl (cost_from e))) (λ t. inr (inr t))) (less_order.some a.levels b.levels))
      (λ a. less_order.irreflexive a.levels)
      (λ a b c. less_order.transitive a.levels b.levels c.levels);
  bound = λ p a z part within. down_above top (level_floor p a ws) (level_cost z ws) (sum_le (weak_floor p a) (weak_cost z) (floor_le p a z part within) (weak_constraints_of ws));
  exact = λ p a part every. cost_from (down_same top (level_floor p a ws) (level_cost p ws) (sum_same (weak_floor p a) (weak_cost p) (floor_full p a part every) (weak_constraints_of ws)));
}

-- ---- the costs of sheets

module _ (wishes : List Wish) where
  -- at each level the sum, and 0 where there is no level
  pub sums_at : (z n : ℕ) → cost_at ((levels_of (map wish_of wishes)).cost z).levels n ≡ level_cost z (map wish_of wishes) n
  sums_at z n =
      let sums = level_cost z (map wish_of wishes) in
      cond_both (nat_le 1 n && nat_le n top) (slice_index_or (down_from top sums) (top - n) (pos 0)) (pos 0) (λ v. v ≡ sums n)
      (λ t. let b = and_parts (nat_le 1 n) (nat_le n top) t in down_at top n sums (leb-true 1 n b.0) (leb-true n top b.1))
      (λ f. sym (no_level (weak_cost z) wishes n (λ r. both_ways (nat_le 1 n && nat_le n top) f (and_from (nat_le 1 n) (nat_le n top) (le-leb 1 n r.0) (le-leb n top r.1)))))

  -- below is domination
  pub below_dominates : (x y : ℕ) → Decides (cheaper (map wish_of wishes) x y) (Dominates (map wish_of wishes) x y)
  below_dominates x y = (
    λ t. dominates (decided g h top over t),
    λ d. let range = used_range wishes d.level d.used in decided_less g h top (record { level = d.level; less = d.less; same = d.same }) range.0 range.1,
  )
    where
      g : ℕ → ℤ
      g = level_cost x (map wish_of wishes)

      h : ℕ → ℤ
      h = level_cost y (map wish_of wishes)

      over : (m : ℕ) → top < m → g m ≡ h m
      over m lt = no_level (weak_cost x) wishes m (λ r. omega (arith, r.1)) ∙ sym (no_level (weak_cost y) wishes m (λ r. omega (arith, r.1)))

      dominates : Decided g h → Dominates (map wish_of wishes) x y
      dominates d = record {
        level = d.level;
        used = ⊎_elim (λ t. t)
            (λ f. let a = weak_unused (weak_cost x) d.level (map wish_of wishes) f in let b = weak_unused (weak_cost y) d.level (map wish_of wishes) f in absurd (omega (arith, ints, d.less)))
            (cases_Bool (list_any (λ w. w.level == d.level) (map wish_of wishes)));
        less = d.less;
        same = d.same;
      }
