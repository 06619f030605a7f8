-- Elements of one weight: how many are held says what they weigh.
use Rattle.std.proofs.Common.{◌≡◌, ℕ, ◌+◌, ◌*◌, ◌<◌, ◌≤◌, Bool, true, false, cond, ◌&&◌, List, [], ◌∷◌, ◌++◌, take, length, get_or, subst, zero, suc, sym, ap, ap₂, ◌∙◌, arith}
use Rattle.std.specs.Prelude.{◌==◌, nat_lt}
use Rattle.std.specs.List.{list_all, sum_by, count_by}
use Rattle.std.proofs.lemmas.List.Sums.{sum_by-cons}
use Rattle.std.proofs.Math.Seq.{take-suc}
use Rattle.std.proofs.lemmas.List.{map-append}
use Rattle.std.proofs.lemmas.Bool.{and_parts, eqb-true, eq-eqb}
use Rattle.sheets.specs.Sheets.{width}
use Rattle.sheets.specs.declared.literals.Literal.{Literal}
use Rattle.sheets.specs.declared.literal_sets.LiteralSet.{LiteralSet}
use Rattle.sheets.specs.LiteralSets.{Stands, MarksInWidth, has_literal, with_literal, distinct}
use Rattle.sheets.proofs.LiteralSets.{stands_more, stands_has, distinct_more}
use Rattle.rulefile.specs.declared.uniform.Uniform.{Uniform}
use Rattle.rulefile.specs.declared.constraints.Element.{Element}
use Rattle.rulefile.specs.Uniform.{literals_of, AreUniform}

-- a weight of 16 bits, as often as there are literals
pub product_fits : (w n : ℕ) → w < 65536 → n ≤ 2 * width → w * n < 4294967296
product_fits w n p q = grind arith

module _ (w : ℕ) (p : Literal → Bool) where
  pub counted_sum : (es : List Element) → list_all (λ (e : Element). e.weight == w) es ≡ true → w * count_by p (literals_of es) ≡ sum_by (λ (e : Element). cond (p e.literal) e.weight 0) es
  counted_sum [] h = omega arith
  counted_sum (e ∷ es) h =
      let b = and_parts (e.weight == w) (list_all (λ (e : Element). e.weight == w) es) h in
      let more = sum_by-cons (λ l. cond (p l) 1 0) e.literal (literals_of es) in
      let next = sum_by-cons (λ (e : Element). cond (p e.literal) e.weight 0) e es in
      go (p e.literal) (eqb-true e.weight w b.0) (counted_sum es b.1) more next
    where
      go : {more next : ℕ} (b : Bool) → e.weight ≡ w → w * count_by p (literals_of es) ≡ sum_by (λ (e : Element). cond (p e.literal) e.weight 0) es
          → more ≡ cond b 1 0 + count_by p (literals_of es)
          → next ≡ cond b e.weight 0 + sum_by (λ (e : Element). cond (p e.literal) e.weight 0) es
          → w * more ≡ next
      go {more} {next} true same rest m n = ap (λ k. w * k) m ∙ grind (arith, same, rest, n)
      go {more} {next} false same rest m n = ap (λ k. w * k) m ∙ grind (arith, same, rest, n)

-- the element at i; d is what a list gives beyond its end
module _ (d : Element) where
  one_more : (es : List Element) (i : ℕ) → i < length es → take (i + 1) es ≡ take i es ++ get_or es i d ∷ []
  one_more es i lt = let next : i + 1 ≡ suc i = omega arith in ap (λ n. take n es) next ∙ take-suc es i d lt

  mark_at : (es : List Element) (i : ℕ) → i < length es → MarksInWidth (literals_of es) → nat_lt (get_or es i d).literal.mark width ≡ true
  mark_at [] i lt h = absurd (omega arith)
  mark_at (e ∷ es) zero lt h = (and_parts (nat_lt e.literal.mark width) _ h).0
  mark_at (e ∷ es) (suc i) lt h = mark_at es i (omega arith) (and_parts (nat_lt e.literal.mark width) _ h).1

-- an element of the same weight, whose literal is not there
uniform_more : (done : List Element) (e : Element) (u : Uniform) → AreUniform done u → nat_lt e.literal.mark width ≡ true → e.weight ≡ u.weight
    → has_literal u.literals.plain u.literals.nots e.literal ≡ false
    → AreUniform (done ++ e ∷ []) (record { weight = u.weight; literals = with_literal u.literals e.literal })
uniform_more done e u h t same fresh =
    let literals = map-append (λ (e : Element). e.literal) done (e ∷ []) in
    record {
      weights = all_more done h.weights (eq-eqb e.weight u.weight same);
      words = subst (Stands (with_literal u.literals e.literal).plain (with_literal u.literals e.literal).nots) (sym literals) (stands_more u.literals e.literal (literals_of done) t h.words);
      once = ap distinct literals ∙ distinct_more (literals_of done) e.literal h.once (sym (stands_has u.literals.plain u.literals.nots (literals_of done) e.literal h.words) ∙ fresh);
    }
  where
    all_more : (xs : List Element) → list_all (λ (e : Element). e.weight == u.weight) xs ≡ true → (e.weight == u.weight) ≡ true → list_all (λ (e : Element). e.weight == u.weight) (xs ++ e ∷ []) ≡ true
    all_more [] h t = ap (λ b. b && true) t
    all_more (x ∷ xs) h t = let b = and_parts (x.weight == u.weight) (list_all (λ (e : Element). e.weight == u.weight) xs) h in ap₂ (λ b c. b && c) b.0 (all_more xs b.1 t)

-- the same, for the element at i behind those before it
pub uniform_next : (es : List Element) (i : ℕ) (d : Element) (u : Uniform) (s : LiteralSet) → AreUniform (take i es) u → MarksInWidth (literals_of es) → i < length es
    → (get_or es i d).weight ≡ u.weight → has_literal u.literals.plain u.literals.nots (get_or es i d).literal ≡ false → s ≡ with_literal u.literals (get_or es i d).literal
    → AreUniform (take (i + 1) es) (record { weight = u.weight; literals = s })
uniform_next es i d u s h m lt same fresh e =
    let x = get_or es i d in
    let more = uniform_more (take i es) x u h (mark_at d es i lt m) same fresh in
    subst (λ (l : LiteralSet). AreUniform (take (i + 1) es) (record { weight = u.weight; literals = l })) (sym e)
    (subst (λ l. AreUniform l (record { weight = u.weight; literals = with_literal u.literals x.literal })) (sym (one_more d es i lt)) more)
