-- The sums of the levels, as loops over weak constraints make them.
use Rattle.std.proofs.Common.{◌≡◌, ℕ, zero, suc, ◌+◌, ◌-◌, ◌*◌, ◌<◌, ◌≤◌, Bool, true, false, not, cond, eqb, List, [], ◌∷◌, map, length, get_or, set, drop, ap₂, subst, refl, ⊎_elim, ℤ, pos, ◌+ℤ◌, neg_ℤ, ◌≤ℤ◌, ◌<ℤ◌, sym, ap, ◌∙◌, arith, w16, SFits, vec_items}
use Rattle.std.specs.List.{filter, AllZip}
use Rattle.std.specs.Int.{int_min}
use Rattle.std.proofs.lemmas.Int.{ints, clamps}
use Rattle.std.proofs.lemmas.List.{drop_all, get_or-set_other}
use Rattle.std.proofs.lemmas.Grind.{get_or-set_at}
use Rattle.std.proofs.lemmas.Bool.{eq-eqb, ne_eqb, eqb-true, eqb-false, cases_Bool}
use Rattle.std.proofs.lemmas.List.Sums.{length-filter, count_by-le-length}
use Rattle.std.proofs.lemmas.Slice.Zip.{AllZip-long}
use Rattle.sheets.specs.Literals.{in_every, in_some}
use Rattle.rulefile.specs.declared.files.RuleFile.{RuleFile}
use Rattle.rulefile.specs.declared.weak_constraints.Single.{Single}
use Rattle.rulefile.specs.declared.weak_constraints.Group.{Group}
use Rattle.rulefile.specs.Model.{WishModel, wish_of}
use Rattle.rulefile.specs.WeakConstraints.{WeakModel, IsSingle, IsGroup, is_single, is_larger, singles_of, larger_of, weak_constraints_of}
use Rattle.rulefile.proofs.Fits.{fit_parts}
use Rattle.scales.specs.Wishes.{one_held, weak_floor, sum_at, top, down_from, Bounded}
use Rattle.scales.specs.laws.Groups.{weak_few}

-- ---- what a file holds

module _ (file : RuleFile) where
  abbrev ws : List WishModel
  ws = map wish_of (vec_items file.wishes)

  -- there are 256 at most, and so of each type
  few : (p : WeakModel → Bool) → length (filter p (weak_constraints_of ws)) ≤ 256
  few p =
      let cs = weak_constraints_of ws in
      omega (arith, length-filter p cs, count_by-le-length p cs, weak_few ws, (fit_parts _ file.fit).few_wishes)

  pub few_singles : (ss : List Single) → ss ≡ vec_items file.singles → length ss ≤ 256
  few_singles ss same = let e = ap length same in let long = AllZip-long IsSingle (vec_items file.singles) (singles_of ws) file.ones in omega (arith, few is_single)

  pub few_groups : (gs : List Group) → gs ≡ vec_items file.groups → length gs ≤ 256
  few_groups gs same = let e = ap length same in let long = AllZip-long IsGroup (vec_items file.groups) (larger_of ws) file.larger in omega (arith, few is_larger)

-- ---- the floor of one, case by case

module _ (p a : ℕ) (c : WeakModel) where
  pub by_sure : one_held (in_every p a) c ≡ true → c.weight ≡ weak_floor p a c
  by_sure t = sym (ap (λ b. cond b c.weight (cond (one_held (in_some p a) c) (int_min c.weight (pos 0)) (pos 0))) t)

  unsure : one_held (in_every p a) c ≡ false → weak_floor p a c ≡ cond (one_held (in_some p a) c) (int_min c.weight (pos 0)) (pos 0)
  unsure f = ap (λ b. cond b c.weight (cond (one_held (in_some p a) c) (int_min c.weight (pos 0)) (pos 0))) f

  pub by_possible : one_held (in_every p a) c ≡ false → one_held (in_some p a) c ≡ true → c.weight <ℤ pos 0 → c.weight ≡ weak_floor p a c
  by_possible f t less = let least : c.weight ≡ int_min c.weight (pos 0) = omega (arith, ints, clamps, less) in least ∙ sym (unsure f ∙ ap (λ b. cond b (int_min c.weight (pos 0)) (pos 0)) t)

  pub by_impossible : one_held (in_every p a) c ≡ false → one_held (in_some p a) c ≡ false → pos 0 ≡ weak_floor p a c
  by_impossible f g = sym (unsure f ∙ ap (λ b. cond b (int_min c.weight (pos 0)) (pos 0)) g)

  pub by_cost : one_held (in_every p a) c ≡ false → pos 0 ≤ℤ c.weight → pos 0 ≡ weak_floor p a c
  by_cost f more = let least : int_min c.weight (pos 0) ≡ pos 0 = omega (arith, ints, clamps, more) in sym (unsure f ∙ ap (λ x. cond (one_held (in_some p a) c) x (pos 0)) least ∙ go (one_held (in_some p a) c))
    where
      go : (b : Bool) → cond b (pos 0) (pos 0) ≡ pos 0
      go true = refl
      go false = refl

-- ---- one weak constraint more

-- what stands at i of the second list, where x stands there in the first
pub model_at : {A B : Type 0} (R : A → B → Type 0) (xs : List A) (ys : List B) (i : ℕ) (x : A) → AllZip R xs ys → i < length xs → x ≡ get_or xs i x
    → (y : B) × R x y × (drop i ys ≡ y ∷ drop (i + 1) ys)
model_at {A} {B} R xs ys i x h lt e =
    let next : i + 1 ≡ suc i = omega arith in
    let g = go xs ys i h lt e in
    (g.0, g.1, g.2 ∙ ap (λ n. g.0 ∷ drop n ys) (sym next))
  where
    go : (xs : List A) (ys : List B) (i : ℕ) → AllZip R xs ys → i < length xs → x ≡ get_or xs i x → (y : B) × R x y × (drop i ys ≡ y ∷ drop (suc i) ys)
    go [] ys i h lt e = absurd (omega arith)
    go (z ∷ xs) [] i h lt e = absurd h
    go (z ∷ xs) (y ∷ ys) zero h lt e = (y, subst (λ (v : A). R v y) (sym e) h.0, refl)
    go (z ∷ xs) (y ∷ ys) (suc i) h lt e = go xs ys i h.1 (omega arith) e

module _ (f : WeakModel → ℤ) (n : ℕ) (cs : List WeakModel) (i : ℕ) where
  -- c is what stands at i
  module _ (c : WeakModel) (at : drop i cs ≡ c ∷ drop (i + 1) cs) where
    pub sum_hit : c.level ≡ n → sum_at f (drop i cs) n ≡ f c +ℤ sum_at f (drop (i + 1) cs) n
    sum_hit e = ap (λ l. sum_at f l n) at ∙ ap (λ b. cond b (f c) (pos 0) +ℤ sum_at f (drop (i + 1) cs) n) (eq-eqb c.level n e)

    pub sum_miss : (c.level ≡ n → ⊥) → sum_at f (drop i cs) n ≡ pos 0 +ℤ sum_at f (drop (i + 1) cs) n
    sum_miss ne = ap (λ l. sum_at f l n) at ∙ ap (λ b. cond b (f c) (pos 0) +ℤ sum_at f (drop (i + 1) cs) n) (ne_eqb c.level n ne)

  pub sum_none : length cs ≤ i → sum_at f (drop i cs) n ≡ pos 0
  sum_none le = ap (λ l. sum_at f l n) (drop_all i cs le)

-- w is added at the place of a level
module _ (sums : List ℤ) (long : length sums ≡ 8) (place level : ℕ) (w : ℤ) (low : 1 ≤ level) (high : level ≤ 8) (is : place ≡ 8 - level) where
  abbrev next : List ℤ
  next = set sums place (get_or sums place (pos 0) +ℤ w)

  -- what holds of this sum and of the others holds of each
  each : (P : ℕ → ℤ → Type 0) → P place (get_or sums place (pos 0) +ℤ w) → ((n : ℕ) → n < 8 → (n ≡ place → ⊥) → P n (get_or sums n (pos 0)))
      → (n : ℕ) → n < 8 → P n (get_or next n (pos 0))
  each P here others n lt = ⊎_elim
      (λ e. let q = eqb-true n place e in
      subst (P n) (sym (get_or-set_at sums place n _ (pos 0) q (omega (arith, long)))) (subst (λ j. P j (get_or sums place (pos 0) +ℤ w)) (sym q) here))
      (λ e. let q = eqb-false n place e in subst (P n) (sym (get_or-set_other sums place n _ (pos 0) q)) (others n lt q))
      (cases_Bool (eqb n place))

  at : place < 8
  at = omega (arith, is, low)

  pub bounded_more : (k j : ℕ) → j ≡ k + 1 → SFits w16 w → Bounded k sums → Bounded j next
  bounded_more k j more fits b =
      each (λ n v. (neg_ℤ (pos (32768 * j)) ≤ℤ v) × (v ≤ℤ pos (32768 * j)))
      (let h = b place at in (omega (arith, ints, h.0, fits, more), omega (arith, ints, h.1, fits, more)))
      (λ n lt ne. let h = b n lt in (omega (arith, ints, h.0, more), omega (arith, ints, h.1, more)))

  -- m stands at i: what is left adds up to the rest
  pub parts_more : (f : WeakModel → ℤ) (start : List ℤ) (ms : List WeakModel) (i : ℕ) (m : WeakModel) → drop i ms ≡ m ∷ drop (i + 1) ms → level ≡ m.level → w ≡ f m
      → ((n : ℕ) → n < 8 → get_or sums n (pos 0) +ℤ sum_at f (drop i ms) (8 - n) ≡ get_or start n (pos 0) +ℤ sum_at f ms (8 - n))
      → (n : ℕ) → n < 8 → get_or next n (pos 0) +ℤ sum_at f (drop (i + 1) ms) (8 - n) ≡ get_or start n (pos 0) +ℤ sum_at f ms (8 - n)
  parts_more f start ms i m here same costs parts =
      each (λ n v. v +ℤ sum_at f (drop (i + 1) ms) (8 - n) ≡ get_or start n (pos 0) +ℤ sum_at f ms (8 - n))
      (let part = sum_hit f (8 - place) ms i m here (omega (arith, same, is)) in let before = parts place at in omega (arith, ints, costs))
      (λ n lt ne. let part = sum_miss f (8 - n) ms i m here (λ e. ne (omega (arith, same, is, e))) in let before = parts n lt in omega (arith, ints))

-- ---- all of them

-- more room
pub bounded_wider : (j k : ℕ) (sums : List ℤ) → j ≤ k → Bounded j sums → Bounded k sums
bounded_wider j k sums le b n lt = let h = b n lt in (omega (arith, ints, h.0), omega (arith, ints, h.1))

-- no sums yet
abbrev pub none : List ℤ
none = pos 0 ∷ pos 0 ∷ pos 0 ∷ pos 0 ∷ pos 0 ∷ pos 0 ∷ pos 0 ∷ pos 0 ∷ []

pub zeros : (n : ℕ) → n < 8 → get_or none n (pos 0) ≡ pos 0
zeros zero lt = refl
zeros (suc zero) lt = refl
zeros (suc (suc zero)) lt = refl
zeros (suc (suc (suc zero))) lt = refl
zeros (suc (suc (suc (suc zero)))) lt = refl
zeros (suc (suc (suc (suc (suc zero))))) lt = refl
zeros (suc (suc (suc (suc (suc (suc zero)))))) lt = refl
zeros (suc (suc (suc (suc (suc (suc (suc zero))))))) lt = refl
zeros (suc (suc (suc (suc (suc (suc (suc (suc n)))))))) lt = absurd (omega arith)

pub bounded_zeros : Bounded 0 none
bounded_zeros n lt = let z = zeros n lt in (omega (arith, ints), omega (arith, ints))

-- what passes a test and what does not add up to all
split : (f : WeakModel → ℤ) (p : WeakModel → Bool) (cs : List WeakModel) (n : ℕ) → sum_at f (filter p cs) n +ℤ sum_at f (filter (λ c. not (p c)) cs) n ≡ sum_at f cs n
split f p [] n = omega (arith, ints)
split f p (c ∷ cs) n = go (p c) (split f p cs n)
  where
    go : (b : Bool) → sum_at f (filter p cs) n +ℤ sum_at f (filter (λ c. not (p c)) cs) n ≡ sum_at f cs n
        → sum_at f (cond b (c ∷ filter p cs) (filter p cs)) n +ℤ sum_at f (cond (not b) (c ∷ filter (λ c. not (p c)) cs) (filter (λ c. not (p c)) cs)) n ≡ sum_at f (c ∷ cs) n
    go true e = omega (arith, ints, e)
    go false e = omega (arith, ints, e)

-- from zeros on, what is added for those that pass and for the others is what all add up to
pub added_both : (f : WeakModel → ℤ) (p : WeakModel → Bool) (cs : List WeakModel) (start mid sums : List ℤ) → length sums ≡ 8
    → ((n : ℕ) → n < 8 → get_or start n (pos 0) ≡ pos 0)
    → ((n : ℕ) → n < 8 → get_or mid n (pos 0) ≡ get_or start n (pos 0) +ℤ sum_at f (filter p cs) (8 - n))
    → ((n : ℕ) → n < 8 → get_or sums n (pos 0) ≡ get_or mid n (pos 0) +ℤ sum_at f (filter (λ c. not (p c)) cs) (8 - n))
    → sums ≡ down_from top (sum_at f cs)
added_both f p cs start mid sums long empty first second =
    listed 8 sums long (λ n lt. let z = empty n lt in let a = first n lt in let b = second n lt in omega (arith, ints, split f p cs (8 - n)))
  where
    listed : (k : ℕ) (zs : List ℤ) → length zs ≡ k → ((n : ℕ) → n < k → get_or zs n (pos 0) ≡ sum_at f cs (k - n)) → zs ≡ down_from k (sum_at f cs)
    listed zero [] e h = refl
    listed zero (z ∷ zs) e h = absurd (omega arith)
    listed (suc k) [] e h = absurd (omega arith)
    listed (suc k) (z ∷ zs) e h =
        let first : suc k - 0 ≡ suc k = omega arith in
        ap₂ (λ a b. a ∷ b) (h 0 (omega arith) ∙ ap (sum_at f cs) first)
        (listed k zs (omega arith) (λ n ln. let next : suc k - suc n ≡ k - n = omega arith in h (suc n) (omega arith) ∙ ap (sum_at f cs) next))
