-- Keys: `same_key` tells whether two are equal, and what `different` keeps.
use Rattle.std.proofs.Common.{◌≡◌, ℕ, ℤ, Bool, true, false, not, cond, ◌||◌, eqb, List, [], ◌∷◌, ◌++◌, length, ◌≤◌, refl, sym, ap, ap₂, subst, ◌∙◌, ⊎_elim, arith}
use Rattle.std.specs.List.{filter, list_any, AllByRecursion, Contains}
use Rattle.std.specs.Ordering.{int_eq}
use Rattle.std.proofs.lemmas.Bool.{both_ways, cases_Bool, and_from, and_parts, eqb-true, eq-eqb, false_from_ne_true}
use Rattle.std.proofs.lemmas.Bool.Decides.{Decides-int_eq}
use Rattle.std.proofs.lemmas.List.Elements.{filter-append, All-filter, All-from_recursion, recursion_from_All, All-contains_itself}
use Rattle.std.proofs.lemmas.List.Sums.{length-filter, count_by-le-length}
use Rattle.rulefile.specs.declared.wishes.Key.{Key}
use Rattle.rulefile.specs.WeakConstraints.{same_key, different}

-- ---- equal keys

pub key_equal : (j k : Key) → same_key j k ≡ true → j ≡ k
key_equal j k t =
    let a = and_parts (eqb j.level k.level) _ t in
    let b = and_parts (int_eq j.weight k.weight) (eqb j.tag k.tag) a.1 in
    let level = eqb-true j.level k.level a.0 in
    let weight = (Decides-int_eq j.weight k.weight).0 b.0 in
    let tag = eqb-true j.tag k.tag b.1 in
    ap₂ (λ (l : ℕ) (p : ℤ × ℕ). record { level = l; weight = p.0; tag = p.1 }) level (ap₂ (λ (w : ℤ) (t : ℕ). (w, t)) weight tag)

pub key_itself : (k : Key) → same_key k k ≡ true
key_itself k = and_from _ _ (eq-eqb k.level k.level refl) (and_from _ _ ((Decides-int_eq k.weight k.weight).1 refl) (eq-eqb k.tag k.tag refl))

pub key_turned : (j k : Key) → same_key j k ≡ same_key k j
key_turned j k = ⊎_elim
    (λ t. ap (λ (i : Key). same_key j i) (sym (key_equal j k t)) ∙ ap (λ (i : Key). same_key i j) (key_equal j k t))
    (λ f. f ∙ sym (false_from_ne_true (same_key k j) (λ t. both_ways (same_key j k) f (subst (λ (i : Key). same_key i k ≡ true) (key_equal k j t) (key_itself k)))))
    (cases_Bool (same_key j k))

-- ---- different keys

-- one more key behind
pub different_push : (ks : List Key) (k : Key) → different (ks ++ k ∷ []) ≡ different ks ++ cond (list_any (λ j. same_key j k) ks) [] (k ∷ [])
different_push [] k = refl
different_push (j ∷ ks) k =
    ap (λ ds. j ∷ filter (λ i. not (same_key i j)) ds) (different_push ks k)
    ∙ ap (λ ds. j ∷ ds) (filter-append (λ i. not (same_key i j)) (different ks) (cond (list_any (λ i. same_key i k) ks) [] (k ∷ [])))
    ∙ ap (λ ds. j ∷ filter (λ i. not (same_key i j)) (different ks) ++ ds) (go (same_key j k) (list_any (λ i. same_key i k) ks) (key_turned k j))
  where
    go : (b c : Bool) → same_key k j ≡ b → filter (λ i. not (same_key i j)) (cond c [] (k ∷ [])) ≡ cond (b || c) [] (k ∷ [])
    go true true e = refl
    go true false e = ap (λ b. cond (not b) (k ∷ []) []) e
    go false true e = refl
    go false false e = ap (λ b. cond (not b) (k ∷ []) []) e

-- no more than the keys
pub different_shorter : (ks : List Key) → length (different ks) ≤ length ks
different_shorter [] = omega arith
different_shorter (k ∷ ks) =
    let other = λ (j : Key). not (same_key j k) in
    omega (arith, length-filter other (different ks), count_by-le-length other (different ks), different_shorter ks)

-- what holds of each of the keys
pub different_each : (P : Key → Type 0) (ks : List Key) → AllByRecursion P ks → AllByRecursion P (different ks)
different_each P [] h = tt
different_each P (k ∷ ks) h =
    (h.0, recursion_from_All P _ (All-filter (λ j. not (same_key j k)) P (different ks) (All-from_recursion P (different ks) (different_each P ks h.1))))

-- each is one of the keys
pub different_among : (ks : List Key) → AllByRecursion (Contains ks) (different ks)
different_among ks = different_each (Contains ks) ks (recursion_from_All (Contains ks) ks (All-contains_itself ks))
