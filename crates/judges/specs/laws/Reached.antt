-- Lemmas; no contract names what stands here. The rounds, and the closure that they reach.
use Rattle.std.specs.Prelude.{◌≡◌, ℕ, ◌+◌, ◌-◌, ◌^◌, ◌<◌, ◌≤◌, Bool, true, false, cond, not, ◌&&◌, List, [], ◌∷◌, ◌++◌, map, filter, ◌≢◌, bit_or, nat_le, refl}
use Rattle.std.proofs.Common.{sym, ap, subst, ◌∙◌, ⊎_elim, arith}
use Rattle.std.specs.List.{AllByRecursion}
use Rattle.std.proofs.ByRecursion.{All-append}
use Rattle.std.proofs.lemmas.Bool.{both_ways, and_from, and_parts, cases_lt, leb-true, le-leb}
use Rattle.sheets.specs.declared.literals.Literal.{Literal}
use Rattle.rulefile.specs.declared.constraints.Element.{Element}
use Rattle.sheets.specs.Sheets.{width, has, Subset}
use Rattle.rulefile.specs.Model.{ConstraintModel, RuleModel}
use Rattle.std.specs.List.{list_all}
use Rattle.sheets.specs.Literals.{held, holds, by_words}
use Rattle.judges.specs.Programs.{weigh, at_most, plain, Horn, lowered, reduct_of_rule, reduct, reaches, Obeys, Closure}
use Rattle.judges.specs.Rounds.{supported, with_heads, fired, round}
use Rattle.sheets.specs.laws.Bits.{has_none, has_high}
use Rattle.sheets.proofs.Held.{held_wider}
use Rattle.sheets.proofs.Subsets.{subset_le, more_has, more_keeps, more_subset}

-- ---- sums
leaf : (b c : Bool) (w : ℕ) → (b ≡ true → c ≡ true) → cond b w 0 ≤ cond c w 0
leaf true true w h = omega arith
leaf true false w h = absurd (both_ways false refl (h refl))
leaf false true w h = omega arith
leaf false false w h = omega arith

pub weigh_le : (p q : Literal → Bool) → ((l : Literal) → p l ≡ true → q l ≡ true) → (es : List Element) → weigh p es ≤ weigh q es
weigh_le p q h [] = omega arith
weigh_le p q h (e ∷ es) = omega (arith, leaf (p e.literal) (q e.literal) e.weight (h e.literal), weigh_le p q h es)

held_more : (s t z : ℕ) → Subset s t → (l : Literal) → held (by_words s z) l ≡ true → held (by_words t z) l ≡ true
held_more s t z u = held_wider s t z z u (λ i e. e)

-- the element of these three parts
abbrev one : ℕ → Bool → ℕ → Element
one m b w = record { literal = record { mark = m; negated = b }; weight = w }

-- the plain elements in s and the "not" elements that hold in z are what is left and what the bound is lowered by
weigh_split : (s z : ℕ) (es : List Element)
    → weigh (held (by_words s z)) es ≡ weigh (holds s) (filter (λ e. plain e.literal) es) + weigh (λ l. l.negated && holds z l) es
weigh_split s z [] = refl
weigh_split s z (e ∷ es) = go (weigh_split s z es) e.literal.mark e.literal.negated e.weight
  where
    go : weigh (held (by_words s z)) es ≡ weigh (holds s) (filter (λ e. plain e.literal) es) + weigh (λ l. l.negated && holds z l) es → (m : ℕ) (b : Bool) (w : ℕ)
        → weigh (held (by_words s z)) (one m b w ∷ es) ≡ weigh (holds s) (filter (λ e. plain e.literal) (one m b w ∷ es)) + weigh (λ l. l.negated && holds z l) (one m b w ∷ es)
    go rest m true w = omega arith
    go rest m false w = omega arith

-- ---- what a rule that is not skipped asks of a set
reaches_if : (z s : ℕ) (k : ConstraintModel) → nat_le k.low (weigh (held (by_words s z)) k.elements) ≡ true → reaches s (lowered z k) ≡ true
reaches_if z s k t = le-leb _ _ (omega (arith, leb-true k.low (weigh (held (by_words s z)) k.elements) t, weigh_split s z k.elements))

if_reaches : (z s : ℕ) (k : ConstraintModel) → reaches s (lowered z k) ≡ true → nat_le k.low (weigh (held (by_words s z)) k.elements) ≡ true
if_reaches z s k t = le-leb _ _ (omega (arith, leb-true _ _ t, weigh_split s z k.elements))

-- no body sum is above its high bound in z
abbrev Open : ℕ → List ConstraintModel → Bool
Open z ks = list_all (λ k. at_most (weigh (holds z) k.elements) k.high) ks

supported_open : (z s : ℕ) (ks : List ConstraintModel) → list_all (supported z s) ks ≡ true → Open z ks ≡ true
supported_open z s [] h = refl
supported_open z s (k ∷ ks) h =
    let a = and_parts (supported z s k) (list_all (supported z s) ks) h in
    let b = and_parts (at_most (weigh (holds z) k.elements) k.high) (nat_le k.low (weigh (held (by_words s z)) k.elements)) a.0 in
    and_from (at_most (weigh (holds z) k.elements) k.high) (Open z ks) b.0 (supported_open z s ks a.1)

supported_reaches : (z s : ℕ) (ks : List ConstraintModel) → list_all (supported z s) ks ≡ true → list_all (reaches s) (map (lowered z) ks) ≡ true
supported_reaches z s [] h = refl
supported_reaches z s (k ∷ ks) h =
    let a = and_parts (supported z s k) (list_all (supported z s) ks) h in
    let b = and_parts (at_most (weigh (holds z) k.elements) k.high) (nat_le k.low (weigh (held (by_words s z)) k.elements)) a.0 in
    and_from (reaches s (lowered z k)) (list_all (reaches s) (map (lowered z) ks)) (reaches_if z s k b.1) (supported_reaches z s ks a.1)

supported_from : (z s : ℕ) (ks : List ConstraintModel) → Open z ks ≡ true → list_all (reaches s) (map (lowered z) ks) ≡ true → list_all (supported z s) ks ≡ true
supported_from z s [] o h = refl
supported_from z s (k ∷ ks) o h =
    let a = and_parts (at_most (weigh (holds z) k.elements) k.high) (Open z ks) o in
    let b = and_parts (reaches s (lowered z k)) (list_all (reaches s) (map (lowered z) ks)) h in
    and_from (supported z s k) (list_all (supported z s) ks)
    (and_from (at_most (weigh (holds z) k.elements) k.high) (nat_le k.low (weigh (held (by_words s z)) k.elements)) a.0 (if_reaches z s k b.0))
    (supported_from z s ks a.1 b.1)

supported_more : (z s t : ℕ) → Subset s t → (ks : List ConstraintModel) → list_all (supported z s) ks ≡ true → list_all (supported z t) ks ≡ true
supported_more z s t u [] h = refl
supported_more z s t u (k ∷ ks) h =
    let a = and_parts (supported z s k) (list_all (supported z s) ks) h in
    let b = and_parts (at_most (weigh (holds z) k.elements) k.high) (nat_le k.low (weigh (held (by_words s z)) k.elements)) a.0 in
    let le = weigh_le (held (by_words s z)) (held (by_words t z)) (held_more s t z u) k.elements in
    and_from (supported z t k) (list_all (supported z t) ks)
    (and_from (at_most (weigh (holds z) k.elements) k.high) (nat_le k.low (weigh (held (by_words t z)) k.elements)) b.0
    (le-leb _ _ (omega (arith, leb-true _ _ b.1))))
    (supported_more z s t u ks a.1)

-- ---- the Horn rules of one rule, read as one
-- the element gives a head mark: it is plain, and holds in z
abbrev picked : ℕ → Element → Bool
picked z e = plain e.literal && holds z e.literal

-- the set t has each head mark
abbrev pub HeadsIn : ℕ → ℕ → List Element → Type 0
HeadsIn z t es = AllByRecursion (λ e. picked z e ≡ true → has t e.literal.mark ≡ true) es

-- the Horn rule of a head element, with the constraints ks as its body
abbrev horn : ℕ → List ConstraintModel → Element → Horn
horn z ks e = record { mark = e.literal.mark; body = map (lowered z) ks }

module _ (z t : ℕ) (ks : List ConstraintModel) where
  heads_from : list_all (reaches t) (map (lowered z) ks) ≡ true → (es : List Element) → AllByRecursion (Obeys t) (map (horn z ks) (filter (picked z) es)) → HeadsIn z t es
  heads_from ok [] a = tt
  heads_from ok (e ∷ es) a = go (heads_from ok es) (picked z e) refl a
    where
      go : (AllByRecursion (Obeys t) (map (horn z ks) (filter (picked z) es)) → HeadsIn z t es)
          → (b : Bool) → picked z e ≡ b → AllByRecursion (Obeys t) (map (horn z ks) (cond b (e ∷ filter (picked z) es) (filter (picked z) es))) → HeadsIn z t (e ∷ es)
      go rest true q a = (λ _. a.0 ok, rest a.1)
      go rest false q a = (λ p. absurd (both_ways (picked z e) q p), rest a)

  heads_to : (es : List Element) → (list_all (reaches t) (map (lowered z) ks) ≡ true → HeadsIn z t es) → AllByRecursion (Obeys t) (map (horn z ks) (filter (picked z) es))
  heads_to [] a = tt
  heads_to (e ∷ es) a = go (heads_to es (λ ok. (a ok).1)) (picked z e) refl
    where
      go : AllByRecursion (Obeys t) (map (horn z ks) (filter (picked z) es))
          → (b : Bool) → picked z e ≡ b → AllByRecursion (Obeys t) (map (horn z ks) (cond b (e ∷ filter (picked z) es) (filter (picked z) es)))
      go rest true q = (λ ok. (a ok).0 q, rest)
      go rest false q = rest

pub rule_from : (z t : ℕ) (r : RuleModel) → AllByRecursion (Obeys t) (reduct_of_rule z r) → list_all (supported z t) r.body ≡ true → HeadsIn z t r.head.elements
rule_from z t r a h = heads_from z t r.body (supported_reaches z t r.body h) r.head.elements
    (subst (λ b. AllByRecursion (Obeys t) (cond b (map (horn z r.body) (filter (picked z) r.head.elements)) [])) (supported_open z t r.body h) a)

pub rule_to : (z t : ℕ) (r : RuleModel) → (list_all (supported z t) r.body ≡ true → HeadsIn z t r.head.elements) → AllByRecursion (Obeys t) (reduct_of_rule z r)
rule_to z t r f = go (Open z r.body) refl
  where
    go : (b : Bool) → Open z r.body ≡ b → AllByRecursion (Obeys t) (cond b (map (horn z r.body) (filter (picked z) r.head.elements)) [])
    go true o = heads_to z t r.body r.head.elements (λ ok. f (supported_from z t r.body o ok))
    go false o = tt

-- ---- the heads
heads_keep : (z : ℕ) (es : List Element) (s : ℕ) → Subset s (with_heads z es s)
heads_keep z [] s i t = t
heads_keep z (e ∷ es) s i t = go (heads_keep z es) (picked z e) i t
  where
    go : ((s : ℕ) → Subset s (with_heads z es s)) → (b : Bool) → Subset s (with_heads z es (cond b (bit_or s (2 ^ e.literal.mark)) s))
    go rest true i t = rest (bit_or s (2 ^ e.literal.mark)) i (more_keeps s e.literal.mark i t)
    go rest false i t = rest s i t

heads_under : (z t : ℕ) (es : List Element) (s : ℕ) → Subset s t → HeadsIn z t es → Subset (with_heads z es s) t
heads_under z t [] s u h = u
heads_under z t (e ∷ es) s u h = go (λ s u. heads_under z t es s u h.1) (picked z e) refl
  where
    go : ((s : ℕ) → Subset s t → Subset (with_heads z es s) t) → (b : Bool) → picked z e ≡ b → Subset (with_heads z es (cond b (bit_or s (2 ^ e.literal.mark)) s)) t
    go rest true q = rest (bit_or s (2 ^ e.literal.mark)) (more_subset s e.literal.mark t u (h.0 q))
    go rest false q = rest s u

heads_reach : (z : ℕ) (es : List Element) (s : ℕ) → HeadsIn z (with_heads z es s) es
heads_reach z [] s = tt
heads_reach z (e ∷ es) s = go (heads_reach z es) (picked z e) refl
  where
    go : ((s : ℕ) → HeadsIn z (with_heads z es s) es) → (b : Bool) → picked z e ≡ b → HeadsIn z (with_heads z es (cond b (bit_or s (2 ^ e.literal.mark)) s)) (e ∷ es)
    go rest true q = (λ _. heads_keep z es (bit_or s (2 ^ e.literal.mark)) e.literal.mark (more_has s e.literal.mark), rest (bit_or s (2 ^ e.literal.mark)))
    go rest false q = (λ p. absurd (both_ways (picked z e) q p), rest s)

pub heads_inside : (z : ℕ) (es : List Element) → HeadsIn z z es
heads_inside z [] = tt
heads_inside z (e ∷ es) = (go e.literal.negated, heads_inside z es)
  where
    go : (b : Bool) → (not b && cond b (not (has z e.literal.mark)) (has z e.literal.mark)) ≡ true → has z e.literal.mark ≡ true
    go true p = absurd (both_ways false refl p)
    go false p = p

heads_weaker : (z t u : ℕ) → Subset t u → (es : List Element) → HeadsIn z t es → HeadsIn z u es
heads_weaker z t u le [] h = tt
heads_weaker z t u le (e ∷ es) h = (λ p. le e.literal.mark (h.0 p), heads_weaker z t u le es h.1)

-- ---- one rule
fired_keeps : (z : ℕ) (r : RuleModel) (s : ℕ) → Subset s (fired z r s)
fired_keeps z r s = go (list_all (supported z s) r.body)
  where
    go : (b : Bool) → Subset s (cond b (with_heads z r.head.elements s) s)
    go true = heads_keep z r.head.elements s
    go false = λ i t. t

fired_under : (z t : ℕ) (r : RuleModel) (s : ℕ) → Subset s t → AllByRecursion (Obeys t) (reduct_of_rule z r) → Subset (fired z r s) t
fired_under z t r s u a = go (list_all (supported z s) r.body) refl
  where
    go : (b : Bool) → list_all (supported z s) r.body ≡ b → Subset (cond b (with_heads z r.head.elements s) s) t
    go true q = heads_under z t r.head.elements s u (rule_from z t r a (supported_more z s t u r.body q))
    go false q = u

fired_inside : (z : ℕ) (r : RuleModel) (s : ℕ) → Subset s z → Subset (fired z r s) z
fired_inside z r s u = go (list_all (supported z s) r.body)
  where
    go : (b : Bool) → Subset (cond b (with_heads z r.head.elements s) s) z
    go true = heads_under z z r.head.elements s u (heads_inside z r.head.elements)
    go false = u

-- u has all that the rule gives from s, and s all of u
fired_obeys : (z u : ℕ) (r : RuleModel) (s : ℕ) → Subset u s → Subset (fired z r s) u → AllByRecursion (Obeys u) (reduct_of_rule z r)
fired_obeys z u r s us fu = rule_to z u r (λ ok. go (list_all (supported z s) r.body) (supported_more z u s us r.body ok) fu)
  where
    go : (b : Bool) → b ≡ true → Subset (cond b (with_heads z r.head.elements s) s) u → HeadsIn z u r.head.elements
    go true q f = heads_weaker z (with_heads z r.head.elements s) u f r.head.elements (heads_reach z r.head.elements s)
    go false q f = absurd (both_ways false refl q)

-- ---- a round
all_split : {X : Type 0} (P : X → Type 0) (xs ys : List X) → AllByRecursion P (xs ++ ys) → AllByRecursion P xs × AllByRecursion P ys
all_split P [] ys a = (tt, a)
all_split P (x ∷ xs) ys a = let b = all_split P xs ys a.1 in ((a.0, b.0), b.1)

pub round_keeps : (z : ℕ) (program : List RuleModel) (s : ℕ) → Subset s (round z program s)
round_keeps z [] s i t = t
round_keeps z (r ∷ rs) s i t = round_keeps z rs (fired z r s) i (fired_keeps z r s i t)

pub round_under : (z t : ℕ) (program : List RuleModel) (s : ℕ) → Subset s t → AllByRecursion (Obeys t) (reduct z program) → Subset (round z program s) t
round_under z t [] s u a = u
round_under z t (r ∷ rs) s u a =
    let b = all_split (Obeys t) (reduct_of_rule z r) (reduct z rs) a in
    round_under z t rs (fired z r s) (fired_under z t r s u b.0) b.1

pub round_inside : (z : ℕ) (program : List RuleModel) (s : ℕ) → Subset s z → Subset (round z program s) z
round_inside z [] s u = u
round_inside z (r ∷ rs) s u = round_inside z rs (fired z r s) (fired_inside z r s u)

pub round_obeys : (z u : ℕ) (program : List RuleModel) (s : ℕ) → Subset u s → Subset (round z program s) u → AllByRecursion (Obeys u) (reduct z program)
round_obeys z u [] s us ru = tt
round_obeys z u (r ∷ rs) s us ru =
    All-append (Obeys u) (reduct_of_rule z r) (reduct z rs)
    (fired_obeys z u r s us (λ i t. ru i (round_keeps z rs (fired z r s) i t)))
    (round_obeys z u rs (fired z r s) (λ i t. fired_keeps z r s i (us i t)) ru)

-- ---- the rounds
-- a set on the way to the closure: within z, and within each set that satisfies the reduct
pub record Underway (z : ℕ) (program : List RuleModel) (s : ℕ) : Type 0 where
  pub inside : Subset s z
  pub needed : (t : ℕ) → AllByRecursion (Obeys t) (reduct z program) → Subset s t

module _ (z : ℕ) (program : List RuleModel) where
  pub underway_none : Underway z program 0
  underway_none = record {
    inside = λ i t. absurd (both_ways (has 0 i) (has_none i) t);
    needed = λ _ _ i t. absurd (both_ways (has 0 i) (has_none i) t);
  }

  pub underway_more : (s n : ℕ) → n ≡ round z program s → Underway z program s → Underway z program n
  underway_more s n e w = subst (Underway z program) (sym e) (record {
    inside = round_inside z program s w.inside;
    needed = λ t a. round_under z t program s (w.needed t a) a;
  })

  pub underway_less : (s n : ℕ) → n ≡ round z program s → (n ≢ s) → Underway z program s → z - n < z - s
  underway_less s n e ne w =
      let up : s ≤ n = subset_le s n (λ i t. ap (λ q. has q i) e ∙ round_keeps z program s i t) in
      let in' : n ≤ z = subset_le n z (underway_more s n e w).inside in
      omega arith

  pub underway_closure : (s n : ℕ) → n ≡ round z program s → n ≡ s → Underway z program s → Closure (reduct z program) s
  underway_closure s n e same w = record {
    obeys = round_obeys z s program s (λ i t. t) (λ i t. ap (λ q. has q i) (sym same ∙ e) ∙ t);
    least = w.needed;
  }

-- ---- words
pub picked_low : (z : ℕ) (l : Literal) → z < 2 ^ width → (plain l && holds z l) ≡ true → l.mark < width
picked_low z l word t = ⊎_elim (λ lt. lt) (λ ge. absurd (both_ways (has z l.mark) (has_high width z l.mark word ge) (go l.negated t))) (cases_lt l.mark width)
  where
    go : (b : Bool) → (not b && cond b (not (has z l.mark)) (has z l.mark)) ≡ true → has z l.mark ≡ true
    go true p = absurd (both_ways false refl p)
    go false p = p
