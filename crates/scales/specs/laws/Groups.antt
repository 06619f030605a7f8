-- Lemmas; no contract names what stands here. What wishes that share a tag add to the cost of a level.
use Rattle.std.specs.Prelude.{◌≡◌, ℕ, zero, suc, ◌+◌, ◌<◌, ◌≤◌, Bool, true, false, not, cond, ◌&&◌, ◌||◌, List, [], ◌∷◌, ◌++◌, map, length, ℤ, pos, ◌+ℤ◌, get_or, IsPermutation, Contains, None, Some, Option, ◌==◌, refl}
use Rattle.std.proofs.Common.{set, sym, ap, ap₂, subst, ◌∙◌, ⊎_elim, arith}
use Rattle.std.specs.List.{list_all, list_any, swap, filter, filter_map, AllByRecursion}
use Rattle.std.proofs.lemmas.Int.{ints}
use Rattle.std.proofs.lemmas.Bool.{both_ways, cases_Bool, and_parts, or_parts}
use Rattle.std.proofs.lemmas.List.{length-append, length-map}
use Rattle.std.proofs.lemmas.List.Folds.{list_any_at}
use Rattle.std.proofs.lemmas.List.Sorted.{IsPermutation-keeps, IsPermutation-middle}
use Rattle.sheets.specs.declared.literals.Literal.{Literal}
use Rattle.sheets.specs.Literals.{held, holds, in_every, in_some}
use Rattle.std.specs.Int.{int_min}
use Rattle.rulefile.specs.declared.wishes.Key.{Key}
use Rattle.rulefile.specs.Model.{WishModel}
use Rattle.rulefile.specs.WeakConstraints.{WeakModel, key_of, same_key, has_key, is_key, same_group, no_tag, different, group, groups_of, is_untagged, alone, weak_constraints_of}
use Rattle.scales.specs.Wishes.{sum_at}
use Rattle.scales.specs.Theorems.{SameCosts, GroupsStand, without_tag, by_records}
use Rattle.rulefile.proofs.Keys.{key_equal, key_itself, key_turned, different_shorter, different_each}

-- ---- how many weak constraints, and their levels

-- the wish with another tag
abbrev tagged : WishModel → Option ℕ → WishModel
tagged w tag = record { level = w.level; tag = tag; weight = w.weight; literals = w.literals }

-- each wish has no tag, or a key
parted : (ws : List WishModel) → length (filter is_untagged ws) + length (filter_map key_of ws) ≡ length ws
parted [] = refl
parted (w ∷ ws) = go w.tag (parted ws)
  where
    go : (tag : Option ℕ) → length (filter is_untagged ws) + length (filter_map key_of ws) ≡ length ws
        → length (filter is_untagged (tagged w tag ∷ ws)) + length (filter_map key_of (tagged w tag ∷ ws)) ≡ length (w ∷ ws)
    go None e = omega arith
    go (Some t) e = omega arith

-- there are no more weak constraints than wishes
pub weak_few : (ws : List WishModel) → length (weak_constraints_of ws) ≤ length ws
weak_few ws =
    let keys = filter_map key_of ws in
    omega (arith, parted ws, different_shorter keys, length-append (map alone (filter is_untagged ws)) (groups_of ws), length-map (filter is_untagged ws) alone, length-map (different keys) (group ws))

-- sums, part by part
pub sum_append : (f : WeakModel → ℤ) (cs ds : List WeakModel) (n : ℕ) → sum_at f (cs ++ ds) n ≡ sum_at f cs n +ℤ sum_at f ds n
sum_append f [] ds n = omega (arith, ints)
sum_append f (c ∷ cs) ds n = omega (arith, ints, sum_append f cs ds n)

-- what holds of the level and the weight of each wish holds of those of each weak constraint
module _ (P : ℕ → ℤ → Type 0) where
  each_append : (cs ds : List WeakModel) → AllByRecursion (λ (c : WeakModel). P c.level c.weight) cs → AllByRecursion (λ (c : WeakModel). P c.level c.weight) ds
      → AllByRecursion (λ (c : WeakModel). P c.level c.weight) (cs ++ ds)
  each_append [] ds h k = k
  each_append (c ∷ cs) ds h k = (h.0, each_append cs ds h.1 k)

  each_alone : (ws : List WishModel) → AllByRecursion (λ (w : WishModel). P w.level w.weight) ws → AllByRecursion (λ (c : WeakModel). P c.level c.weight) (map alone (filter is_untagged ws))
  each_alone [] h = tt
  each_alone (w ∷ ws) h = go (is_untagged w) h.0 (each_alone ws h.1)
    where
      go : (b : Bool) → P w.level w.weight → AllByRecursion (λ (c : WeakModel). P c.level c.weight) (map alone (filter is_untagged ws))
          → AllByRecursion (λ (c : WeakModel). P c.level c.weight) (map alone (cond b (w ∷ filter is_untagged ws) (filter is_untagged ws)))
      go true q rest = (q, rest)
      go false q rest = rest

  each_key : (ws : List WishModel) → AllByRecursion (λ (w : WishModel). P w.level w.weight) ws → AllByRecursion (λ (k : Key). P k.level k.weight) (filter_map key_of ws)
  each_key [] h = tt
  each_key (w ∷ ws) h = go w.tag h.0 (each_key ws h.1)
    where
      go : (tag : Option ℕ) → P w.level w.weight → AllByRecursion (λ (k : Key). P k.level k.weight) (filter_map key_of ws)
          → AllByRecursion (λ (k : Key). P k.level k.weight) (filter_map key_of (tagged w tag ∷ ws))
      go None q rest = rest
      go (Some t) q rest = (q, rest)

  each_group : (ws : List WishModel) (ks : List Key) → AllByRecursion (λ (k : Key). P k.level k.weight) ks → AllByRecursion (λ (c : WeakModel). P c.level c.weight) (map (group ws) ks)
  each_group ws [] h = tt
  each_group ws (k ∷ ks) h = (h.0, each_group ws ks h.1)

  pub weak_each : (ws : List WishModel) → AllByRecursion (λ (w : WishModel). P w.level w.weight) ws → AllByRecursion (λ (c : WeakModel). P c.level c.weight) (weak_constraints_of ws)
  weak_each ws h =
      each_append (map alone (filter is_untagged ws)) (groups_of ws) (each_alone ws h)
      (each_group ws (different (filter_map key_of ws)) (different_each (λ (k : Key). P k.level k.weight) (filter_map key_of ws) (each_key ws h)))

module _ (f : WeakModel → ℤ) (n : ℕ) where
  none_used : (cs : List WeakModel) → AllByRecursion (λ (c : WeakModel). (c.level == n) ≡ false) cs → sum_at f cs n ≡ pos 0
  none_used [] h = refl
  none_used (c ∷ cs) h = ap₂ (λ x y. cond x (f c) (pos 0) +ℤ y) h.0 (none_used cs h.1)

  others : (ws : List WishModel) → list_any (λ w. w.level == n) ws ≡ false → AllByRecursion (λ (w : WishModel). (w.level == n) ≡ false) ws
  others [] h = tt
  others (w ∷ ws) h = let b = or_parts (w.level == n) _ h in (b.0, others ws b.1)

  -- a level that no wish has
  pub weak_unused : (ws : List WishModel) → list_any (λ w. w.level == n) ws ≡ false → sum_at f (weak_constraints_of ws) n ≡ pos 0
  weak_unused ws h = none_used (weak_constraints_of ws) (weak_each (λ level weight. (level == n) ≡ false) ws (others ws h))

-- ---- another order

-- a relation of each list to itself, that goes on from list to list, is kept behind an element, and lets neighbours change places,
-- relates any two orders of a list
module _ {X : Type 0} (R : List X → List X → Type 0) (itself : (xs : List X) → R xs xs) (chained : (xs ys zs : List X) → R xs ys → R ys zs → R xs zs)
    (behind : (x : X) (xs ys : List X) → R xs ys → R (x ∷ xs) (x ∷ ys)) (turned : (x y : X) (xs : List X) → R (x ∷ y ∷ xs) (y ∷ x ∷ xs)) where
  first_for : (x d : X) (ys : List X) (j : ℕ) → j < length ys → R (x ∷ ys) (get_or ys j d ∷ set ys j x)
  first_for x d [] j lt = absurd (omega arith)
  first_for x d (y ∷ ys) zero lt = turned x y ys
  first_for x d (y ∷ ys) (suc j) lt =
      chained _ _ _ (turned x y ys) (chained _ _ _ (behind y _ _ (first_for x d ys j (omega arith))) (turned y (get_or ys j d) (set ys j x)))

  one_for_another : (d : X) (xs : List X) (i j : ℕ) → i < length xs → j < length xs → R xs (set (set xs i (get_or xs j d)) j (get_or xs i d))
  one_for_another d [] i j p q = absurd (omega arith)
  one_for_another d (x ∷ xs) zero zero p q = itself (x ∷ xs)
  one_for_another d (x ∷ xs) zero (suc j) p q = first_for x d xs j (omega arith)
  one_for_another d (x ∷ xs) (suc i) zero p q = first_for x d xs i (omega arith)
  one_for_another d (x ∷ xs) (suc i) (suc j) p q = behind x _ _ (one_for_another d xs i j (omega arith) (omega arith))

  swapped : (xs : List X) (i j : ℕ) → i < length xs → j < length xs → R xs (swap xs i j)
  swapped [] i j p q = itself []
  swapped (x ∷ xs) i j p q = one_for_another x (x ∷ xs) i j p q

  each_order : (xs ys : List X) → IsPermutation xs ys → R xs ys
  each_order xs = IsPermutation-keeps xs (R xs) (itself xs) (λ l i j p q h. chained xs l (swap l i j) h (swapped l i j p q))

-- ---- sums over keys

abbrev total : (Key → ℤ) → List Key → ℤ
total g [] = pos 0
total g (k ∷ ks) = g k +ℤ total g ks

-- g, with 0 for the key k
abbrev without : Key → (Key → ℤ) → Key → ℤ
without k g j = cond (not (same_key j k)) (g j) (pos 0)

total_same : (g h : Key → ℤ) → ((k : Key) → g k ≡ h k) → (ks : List Key) → total g ks ≡ total h ks
total_same g h e [] = refl
total_same g h e (k ∷ ks) = ap₂ (λ x y. x +ℤ y) (e k) (total_same g h e ks)

total_others : (k : Key) (g : Key → ℤ) (ks : List Key) → total g (filter (λ j. not (same_key j k)) ks) ≡ total (without k g) ks
total_others k g [] = refl
total_others k g (j ∷ ks) = go (same_key j k) (total_others k g ks)
  where
    go : (b : Bool) → total g (filter (λ i. not (same_key i k)) ks) ≡ total (without k g) ks
        → total g (cond (not b) (j ∷ filter (λ i. not (same_key i k)) ks) (filter (λ i. not (same_key i k)) ks)) ≡ cond (not b) (g j) (pos 0) +ℤ total (without k g) ks
    go true e = omega (arith, ints)
    go false e = omega (arith, ints)

-- over different keys, what one of them adds
total_apart : (k : Key) (ks : List Key) (g : Key → ℤ) → total g (different ks) ≡ total (without k g) (different ks) +ℤ cond (list_any (λ j. same_key j k) ks) (g k) (pos 0)
total_apart k [] g = refl
total_apart k (j ∷ ks) g =
    let a = total_others j g (different ks) in
    let b = total_others j (without k g) (different ks) in
    ⊎_elim
    (λ t. let c = total_same (without j (without k g)) (without j g) (λ i. twice (same_key i j) (same_key i k) (g i) (ap (same_key i) (key_equal j k t))) (different ks) in
    let d : g j ≡ g k = ap g (key_equal j k t) in
    rw t (omega (arith, ints)))
    (λ f.
    let e : without j g k ≡ g k = ap (λ b. cond (not b) (g k) (pos 0)) (key_turned k j ∙ f) in
    let c = rw e at (total_apart k ks (without j g)) in
    let d = total_same (without j (without k g)) (without k (without j g)) (λ i. either (same_key i j) (same_key i k) (g i)) (different ks) in
    rw f (omega (arith, ints)))
    (cases_Bool (same_key j k))
  where
    twice : (b c : Bool) (x : ℤ) → b ≡ c → cond (not b) (cond (not c) x (pos 0)) (pos 0) ≡ cond (not b) x (pos 0)
    twice true c x e = refl
    twice false true x e = absurd (both_ways false refl e)
    twice false false x e = refl

    either : (b c : Bool) (x : ℤ) → cond (not b) (cond (not c) x (pos 0)) (pos 0) ≡ cond (not c) (cond (not b) x (pos 0)) (pos 0)
    either true true x = refl
    either true false x = refl
    either false c x = refl

-- ---- one more wish

-- a wish of the group of k passes p
abbrev among : (List Literal → Bool) → Key → List WishModel → Bool
among p k = list_any (λ w. has_key k w && p w.literals)

among_members : (p : List Literal → Bool) (k : Key) (ws : List WishModel) → list_any p (map (λ (w : WishModel). w.literals) (filter (has_key k) ws)) ≡ among p k ws
among_members p k [] = refl
among_members p k (w ∷ ws) = go (has_key k w) (among_members p k ws)
  where
    go : (b : Bool) → list_any p (map (λ (w : WishModel). w.literals) (filter (has_key k) ws)) ≡ among p k ws
        → list_any p (map (λ (w : WishModel). w.literals) (cond b (w ∷ filter (has_key k) ws) (filter (has_key k) ws))) ≡ (b && p w.literals || among p k ws)
    go true e = ap (λ b. p w.literals || b) e
    go false e = e

among_none : (p : List Literal → Bool) (k : Key) (ws : List WishModel) → list_any (has_key k) ws ≡ false → among p k ws ≡ false
among_none p k [] h = refl
among_none p k (w ∷ ws) h = let b = or_parts (has_key k w) (list_any (has_key k) ws) h in ap₂ (λ x y. x && p w.literals || y) b.0 (among_none p k ws b.1)

-- a key of the wishes
key_among : (k : Key) (ws : List WishModel) → list_any (λ j. same_key j k) (filter_map key_of ws) ≡ list_any (has_key k) ws
key_among k [] = refl
key_among k (w ∷ ws) = go w.tag (key_among k ws)
  where
    go : (tag : Option ℕ) → list_any (λ j. same_key j k) (filter_map key_of ws) ≡ list_any (has_key k) ws
        → list_any (λ j. same_key j k) (filter_map key_of (tagged w tag ∷ ws)) ≡ list_any (has_key k) (tagged w tag ∷ ws)
    go None e = e
    go (Some t) e = ap (λ b. has_key k (tagged w (Some t)) || b) e

or_false : (b : Bool) → (b || false) ≡ b
or_false true = refl
or_false false = refl

or_turned : (a b c : Bool) → (a || (b || c)) ≡ (b || (a || c))
or_turned true true c = refl
or_turned true false c = refl
or_turned false b c = refl

-- once more changes nothing
or_contained : (p : WishModel → Bool) (w : WishModel) (ws : List WishModel) → Contains ws w → (p w || list_any p ws) ≡ list_any p ws
or_contained p w ws h = go (p w) refl
  where
    go : (b : Bool) → p w ≡ b → (b || list_any p ws) ≡ list_any p ws
    go true e = sym (list_any_at p ws h.0 w h.1 (ap p h.2 ∙ e))
    go false e = refl

-- F is what a weak constraint of a weight costs, by whether one member passes q and whether one passes r
module _ (F : ℤ → Bool → Bool → ℤ) (q r : List Literal → Bool) (n : ℕ) where
  abbrev value : WeakModel → ℤ
  value c = F c.weight (list_any q c.members) (list_any r c.members)

  -- what all the wishes cost at level n
  abbrev cost : List WishModel → ℤ
  cost ws = sum_at value (weak_constraints_of ws) n

  -- the wish by itself
  abbrev own : WishModel → ℤ
  own w = cond (w.level == n) (F w.weight (q w.literals) (r w.literals)) (pos 0)

  -- those of them in the group of k
  abbrev part : List WishModel → Key → ℤ
  part ws k = cond (k.level == n) (F k.weight (among q k ws) (among r k ws)) (pos 0)

  -- what the group costs that a wish with this key joins; and, the wish in front, what its group costs, or itself without a key
  abbrev before : Option Key → List WishModel → ℤ
  before None ws = pos 0
  before (Some k) ws = part ws k

  abbrev after : Option Key → WishModel → List WishModel → ℤ
  after None w ws = own w
  after (Some k) w ws = part (w ∷ ws) k

  groups_total : (ws : List WishModel) (ks : List Key) → sum_at value (map (group ws) ks) n ≡ total (part ws) ks
  groups_total ws [] = refl
  groups_total ws (k ∷ ks) = ap₂ (λ x y. x +ℤ y) (ap₂ (λ a b. cond (k.level == n) (F k.weight a b) (pos 0)) (among_members q k ws) (among_members r k ws)) (groups_total ws ks)

  part_same : (k : Key) (vs ws : List WishModel) → ((p : WishModel → Bool) → list_any p vs ≡ list_any p ws) → part vs k ≡ part ws k
  part_same k vs ws h = ap₂ (λ a b. cond (k.level == n) (F k.weight a b) (pos 0)) (h _) (h _)

  -- a wish of another group
  part_other : (k : Key) (w : WishModel) (ws : List WishModel) → has_key k w ≡ false → part (w ∷ ws) k ≡ part ws k
  part_other k w ws e = ap (λ x. cond (k.level == n) (F k.weight (x && q w.literals || among q k ws) (x && r w.literals || among r k ws)) (pos 0)) e

  module _ (none : (w : ℤ) → F w false false ≡ pos 0) where
    part_none : (k : Key) (ws : List WishModel) → list_any (has_key k) ws ≡ false → part ws k ≡ pos 0
    part_none k ws h = ap₂ (λ a b. cond (k.level == n) (F k.weight a b) (pos 0)) (among_none q k ws h) (among_none r k ws h) ∙ go (k.level == n)
      where
        go : (b : Bool) → cond b (F k.weight false false) (pos 0) ≡ pos 0
        go true = none k.weight
        go false = refl

    one_more : (w : WishModel) (ws : List WishModel) → cost (w ∷ ws) +ℤ before (key_of w) ws ≡ cost ws +ℤ after (key_of w) w ws
    one_more w ws = go w.tag
      where
        -- the groups of other keys
        others : (j : Key) (t : ℕ) (b : Bool) → has_key j (tagged w (Some t)) ≡ b → cond (not b) (part (tagged w (Some t) ∷ ws) j) (pos 0) ≡ cond (not b) (part ws j) (pos 0)
        others j t true e = refl
        others j t false e = part_other j (tagged w (Some t)) ws e

        counted : (k : Key) → cond (list_any (λ j. same_key j k) (filter_map key_of ws)) (part ws k) (pos 0) ≡ part ws k
        counted k = ⊎_elim
            (λ t. ap (λ b. cond b (part ws k) (pos 0)) (key_among k ws ∙ t))
            (λ f. ap (λ b. cond b (part ws k) (pos 0)) (key_among k ws ∙ f) ∙ sym (part_none k ws f))
            (cases_Bool (list_any (has_key k) ws))

        go : (tag : Option ℕ) → cost (tagged w tag ∷ ws) +ℤ before (key_of (tagged w tag)) ws ≡ cost ws +ℤ after (key_of (tagged w tag)) (tagged w tag) ws
        go None =
            let e : cost (tagged w None ∷ ws) ≡ own w +ℤ cost ws = ap₂ (λ a b. cond (w.level == n) (F w.weight a b) (pos 0) +ℤ cost ws) (or_false (q w.literals)) (or_false (r w.literals)) in
            omega (arith, ints)
        go (Some t) =
            let k : Key = record { level = w.level; weight = w.weight; tag = t } in
            let v = tagged w (Some t) in
            let keys = filter_map key_of ws in
            let a = sum_append value (map alone (filter is_untagged ws)) (groups_of ws) n in
            let b = sum_append value (map alone (filter is_untagged ws)) (groups_of (v ∷ ws)) n in
            let c = groups_total ws (different keys) in
            let d = groups_total (v ∷ ws) (different (k ∷ keys)) in
            let e = total_others k (part (v ∷ ws)) (different keys) in
            let f = total_same (without k (part (v ∷ ws))) (without k (part ws)) (λ j. others j t (same_key j k) (key_turned k j)) (different keys) in
            let g = total_apart k keys (part ws) in
            let h = counted k in
            omega (arith, ints)

    -- cost the same, and pass the same tests
    record Alike (vs ws : List WishModel) : Type 0 where
      costs : cost vs ≡ cost ws
      tests : (p : WishModel → Bool) → list_any p vs ≡ list_any p ws

    alike_behind : (w : WishModel) (vs ws : List WishModel) → Alike vs ws → Alike (w ∷ vs) (w ∷ ws)
    alike_behind w vs ws h = record {
      costs =
          let a = one_more w vs in
          let b = one_more w ws in
          let c = kept_before (key_of w) in
          let d = kept_after (key_of w) in
          let e = h.costs in
          omega (arith, ints);
      tests = λ p. ap (λ b. p w || b) (h.tests p);
    }
      where
        kept_before : (o : Option Key) → before o vs ≡ before o ws
        kept_before None = refl
        kept_before (Some k) = part_same k vs ws h.tests

        kept_after : (o : Option Key) → after o w vs ≡ after o w ws
        kept_after None = refl
        kept_after (Some k) = part_same k (w ∷ vs) (w ∷ ws) (λ p. ap (λ b. p w || b) (h.tests p))

    alike_turned : (v w : WishModel) (ws : List WishModel) → Alike (v ∷ w ∷ ws) (w ∷ v ∷ ws)
    alike_turned v w ws = record {
      costs =
          let a = one_more v (w ∷ ws) in
          let b = one_more w ws in
          let c = one_more w (v ∷ ws) in
          let d = one_more v ws in
          let e = go (key_of v) (key_of w) refl refl in
          omega (arith, ints);
      tests = λ p. or_turned (p v) (p w) (list_any p ws);
    }
      where
        over_other : (k : Key) (v w : WishModel) → has_key k v ≡ false → part (w ∷ v ∷ ws) k ≡ part (w ∷ ws) k
        over_other k v w e = part_same k (w ∷ v ∷ ws) (v ∷ w ∷ ws) (λ p. or_turned (p w) (p v) (list_any p ws)) ∙ part_other k v (w ∷ ws) e

        -- the two add up alike in both orders
        Even : Option Key → Option Key → Type 0
        Even a b = (after b w ws +ℤ before b (v ∷ ws)) +ℤ (after a v (w ∷ ws) +ℤ before a ws) ≡ (after a v ws +ℤ before a (w ∷ ws)) +ℤ (after b w (v ∷ ws) +ℤ before b ws)

        even_one : (k : Key) → Even (Some k) (Some k)
        even_one k = omega (arith, ints, part_same k (v ∷ w ∷ ws) (w ∷ v ∷ ws) (λ p. or_turned (p v) (p w) (list_any p ws)))

        go : (a b : Option Key) → key_of v ≡ a → key_of w ≡ b → Even a b
        go None None ea eb = omega (arith, ints)
        go None (Some k) ea eb =
            let e = ap (is_key k) ea in
            omega (arith, ints, part_other k v ws e, over_other k v w e)
        go (Some j) None ea eb =
            let e = ap (is_key j) eb in
            omega (arith, ints, part_other j w ws e, over_other j w v e)
        go (Some j) (Some k) ea eb = ⊎_elim
            (λ t. subst (λ (i : Key). Even (Some j) (Some i)) (key_equal j k t) (even_one j))
            (λ f.
            let e = ap (is_key k) ea ∙ f in
            let o = ap (is_key j) eb ∙ key_turned k j ∙ f in
            omega (arith, ints, part_other k v ws e, over_other k v w e, part_other j w ws o, over_other j w v o))
            (cases_Bool (same_key j k))

    alike_ordered : (vs ws : List WishModel) → IsPermutation vs ws → Alike vs ws
    alike_ordered = each_order Alike
        (λ vs. record { costs = refl; tests = λ p. refl })
        (λ us vs ws a b. record { costs = a.costs ∙ b.costs; tests = λ p. a.tests p ∙ b.tests p })
        alike_behind
        alike_turned

    cost_ordered : (vs ws : List WishModel) → IsPermutation vs ws → cost vs ≡ cost ws
    cost_ordered vs ws h = (alike_ordered vs ws h).costs

    moved : (us vs : List WishModel) (w : WishModel) → cost (us ++ w ∷ vs) ≡ cost (w ∷ (us ++ vs))
    moved us vs w = cost_ordered _ _ (IsPermutation-middle us w vs)

    cost_repeated : (ws : List WishModel) (w : WishModel) → is_untagged w ≡ false → Contains ws w → cost (w ∷ ws) ≡ cost ws
    cost_repeated ws w tagged_w there = go w.tag tagged_w there
      where
        go : (tag : Option ℕ) → no_tag tag ≡ false → Contains ws (tagged w tag) → cost (tagged w tag ∷ ws) ≡ cost ws
        go None e c = absurd (both_ways true e refl)
        go (Some t) e c =
            let k : Key = record { level = w.level; weight = w.weight; tag = t } in
            let v = tagged w (Some t) in
            let a = one_more v ws in
            let b = part_same k (v ∷ ws) ws (λ p. or_contained p v ws c) in
            omega (arith, ints)

    cost_alone : (ws : List WishModel) (w : WishModel) → list_any (same_group w) ws ≡ false → cost (w ∷ ws) ≡ cost (without_tag w ∷ ws)
    cost_alone ws w h = go w.tag h
      where
        go : (tag : Option ℕ) → list_any (same_group (tagged w tag)) ws ≡ false → cost (tagged w tag ∷ ws) ≡ cost (without_tag w ∷ ws)
        go None h = refl
        go (Some t) h =
            let k : Key = record { level = w.level; weight = w.weight; tag = t } in
            let v = tagged w (Some t) in
            let a = one_more v ws in
            let b = one_more (without_tag w) ws in
            let c = part_none k ws h in
            let d : part (v ∷ ws) k ≡ own w = simp (key_itself k, among_none q k ws h, among_none r k ws h, or_false) in
            omega (arith, ints)

    cost_untagged : (ws : List WishModel) → list_all is_untagged ws ≡ true → cost ws ≡ by_records (λ (w : WishModel). F w.weight (q w.literals) (r w.literals)) ws n
    cost_untagged [] h = refl
    cost_untagged (w ∷ ws) h =
        let b = and_parts (is_untagged w) (list_all is_untagged ws) h in
        go w.tag b.0 (one_more w ws) (cost_untagged ws b.1)
      where
        go : (tag : Option ℕ) → no_tag tag ≡ true → cost (tagged w tag ∷ ws) +ℤ before (key_of (tagged w tag)) ws ≡ cost ws +ℤ after (key_of (tagged w tag)) (tagged w tag) ws
            → cost ws ≡ by_records (λ (w : WishModel). F w.weight (q w.literals) (r w.literals)) ws n
            → cost (tagged w tag ∷ ws) ≡ own w +ℤ by_records (λ (w : WishModel). F w.weight (q w.literals) (r w.literals)) ws n
        go None e m rest = omega (arith, ints)
        go (Some t) e m rest = absurd (both_ways false refl e)

-- ---- the theorem

module _ (vs ws : List WishModel) where
  same_costs : ((F : ℤ → Bool → Bool → ℤ) → ((w : ℤ) → F w false false ≡ pos 0) → (q r : List Literal → Bool) (n : ℕ) → cost F q r n vs ≡ cost F q r n ws) → SameCosts vs ws
  same_costs h = record {
    costs = λ z n. h (λ w a b. cond a w (pos 0)) (λ w. refl) (list_all (holds z)) (list_all (holds z)) n;
    floors = λ p a n. h (λ w x y. cond x w (cond y (int_min w (pos 0)) (pos 0))) (λ w. refl) (list_all (held (in_every p a))) (list_all (held (in_some p a))) n;
  }

pub groups_stand_proof : GroupsStand
groups_stand_proof = record {
  repeated = λ us vs w t there. same_costs (us ++ w ∷ vs) (us ++ vs) (λ F none q r n. moved F q r n none us vs w ∙ cost_repeated F q r n none (us ++ vs) w t there);
  reordered = λ vs ws h. same_costs vs ws (λ F none q r n. cost_ordered F q r n none vs ws h);
  alone = λ us vs w h. same_costs (us ++ w ∷ vs) (us ++ without_tag w ∷ vs)
      (λ F none q r n. moved F q r n none us vs w ∙ cost_alone F q r n none (us ++ vs) w h ∙ sym (moved F q r n none us vs (without_tag w)));
  untagged = λ ws h z p a n. (
    cost_untagged (λ w a b. cond a w (pos 0)) (list_all (holds z)) (list_all (holds z)) n (λ w. refl) ws h,
    cost_untagged (λ w x y. cond x w (cond y (int_min w (pos 0)) (pos 0))) (list_all (held (in_every p a))) (list_all (held (in_some p a))) n (λ w. refl) ws h,
  );
}
