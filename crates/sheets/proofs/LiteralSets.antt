-- What two words say of the literals that they stand for.
use Rattle.std.specs.Prelude.{◌≡◌, ℕ, ◌+◌, ◌^◌, ◌<◌, Bool, true, false, cond, not, ◌&&◌, ◌||◌, List, [], ◌∷◌, ◌++◌, ◌==◌, bit_and, bit_or, nat_lt, fold}
use Rattle.std.proofs.Common.{sym, refl, ap, ap₂, ◌∙◌, ⊎_elim, append_assoc, append-nil, subst, arith}
use Rattle.std.specs.Int.Bits.{and_lt}
use Rattle.std.specs.Int.Count.{ones}
use Rattle.std.proofs.lemmas.Nat.{pow_pos, or_lt}
use Rattle.std.specs.List.{list_all, list_any, count_by}
use Rattle.std.proofs.lemmas.List.Sums.{sum_by-cons}
use Rattle.std.proofs.lemmas.List.Folds.{list_any-append}
use Rattle.std.proofs.lemmas.Bool.Decides.{nat_tests}
use Rattle.std.proofs.lemmas.Bool.{both_ways, cases_Bool, ltb-true, lt-ltb, eqb-true, eq-eqb, ne_eqb, and_parts, or_cases, or_left, or_right, not-true}
use Rattle.sheets.specs.declared.literals.Literal.{Literal}
use Rattle.sheets.specs.declared.literal_sets.LiteralSet.{LiteralSet}
use Rattle.sheets.specs.Sheets.{width, has, others}
use Rattle.sheets.specs.Literals.{held, by_words}
use Rattle.sheets.specs.LiteralSets.{Stands, MarksInWidth, in_width, has_literal, is_plain, is_not, distinct, with_one, with_literal}
use Rattle.sheets.specs.laws.Bits.{has_none, has_and, has_or, has_one, same_marks}
use Rattle.sheets.specs.laws.Parts.{others_word, has_others}
use Rattle.sheets.specs.Counting.{marks_where}
use Rattle.sheets.specs.laws.Counting.{marks_none, marks_more, ones_where}

-- ---- sets that are built

pub stands_none : Stands 0 0 []
stands_none = record { marks = refl; plain_marks = has_none; not_marks = has_none }

or_false : (b : Bool) → (b || false) ≡ b
or_false true = refl
or_false false = refl

and_true : (b : Bool) → (b && true) ≡ b
and_true true = refl
and_true false = refl

neither : (b c : Bool) → (b || c) ≡ false → (b ≡ false) × (c ≡ false)
neither true c e = absurd (cc)
neither false c e = (refl, e)

turned : (m n : ℕ) → (m == n) ≡ (n == m)
turned m n = grind (arith, nat_tests)

-- mark m more
has_with : (w m i : ℕ) → m < width → has (with_one w m) i ≡ (has w i || m == i)
has_with w m i lt =
    ap (λ b. has (cond b (bit_or w (2 ^ m)) w) i) (lt-ltb m width lt) ∙ has_or w (2 ^ m) i ∙ ap (λ b. has w i || b) (has_one m i ∙ turned i m)

-- one literal more behind those that a word has
any_last : {X : Type 0} (p : X → Bool) (xs : List X) (x : X) → list_any p (xs ++ x ∷ []) ≡ (list_any p xs || p x)
any_last p xs x = list_any-append p xs (x ∷ []) ∙ ap (λ b. list_any p xs || b) (or_false (p x))

all_last : {X : Type 0} (p : X → Bool) (xs : List X) (x : X) → list_all p xs ≡ true → p x ≡ true → list_all p (xs ++ x ∷ []) ≡ true
all_last p [] x h e = ap (λ b. b && true) e
all_last p (y ∷ xs) x h e =
    let b = and_parts (p y) (list_all p xs) h in
    ap₂ (λ c d. c && d) b.0 (all_last p xs x b.1 e)

pub stands_more : (s : LiteralSet) (l : Literal) (done : List Literal) → nat_lt l.mark width ≡ true → Stands s.plain s.nots done
    → Stands (with_literal s l).plain (with_literal s l).nots (done ++ l ∷ [])
unfolding with_literal
stands_more s l done t h = record {
  marks = all_last (λ k. nat_lt k.mark width) done l h.marks t;
  plain_marks = λ i. plain l.negated i ∙ ap (λ b. b || is_plain i l) (h.plain_marks i) ∙ sym (any_last (is_plain i) done l);
  not_marks = λ i. nots l.negated i ∙ ap (λ b. b || is_not i l) (h.not_marks i) ∙ sym (any_last (is_not i) done l);
}
  where
    lt : l.mark < width
    lt = ltb-true l.mark width t

    plain : (b : Bool) (i : ℕ) → has (cond b s.plain (with_one s.plain l.mark)) i ≡ (has s.plain i || (not b && l.mark == i))
    plain true i = sym (or_false (has s.plain i))
    plain false i = has_with s.plain l.mark i lt

    nots : (b : Bool) (i : ℕ) → has (cond b (with_one s.nots l.mark) s.nots) i ≡ (has s.nots i || (b && l.mark == i))
    nots true i = has_with s.nots l.mark i lt
    nots false i = sym (or_false (has s.nots i))

-- a literal of a mark that there is not changes nothing
with_beyond : (s : LiteralSet) (l : Literal) → nat_lt l.mark width ≡ false → with_literal s l ≡ s
unfolding with_literal
with_beyond s l f = ap₂ (λ p n. record { plain = p; nots = n }) (plain l.negated) (nots l.negated)
  where
    same : (w : ℕ) → with_one w l.mark ≡ w
    same w = ap (λ b. cond b (bit_or w (2 ^ l.mark)) w) f

    plain : (b : Bool) → cond b s.plain (with_one s.plain l.mark) ≡ s.plain
    plain true = refl
    plain false = same s.plain

    nots : (b : Bool) → cond b (with_one s.nots l.mark) s.nots ≡ s.nots
    nots true = same s.nots
    nots false = refl

stands_behind : (ls : List Literal) (s : LiteralSet) (done : List Literal) → Stands s.plain s.nots done
    → Stands (fold with_literal s ls).plain (fold with_literal s ls).nots (done ++ in_width ls)
stands_behind [] s done h = subst (Stands s.plain s.nots) (sym (append-nil done)) h
stands_behind (l ∷ ls) s done h = ⊎_elim
    (λ t. there t (stands_behind ls next (done ++ l ∷ []) (stands_more s l done t h)))
    (λ f. beyond f (stands_behind ls next done (subst (λ (r : LiteralSet). Stands r.plain r.nots done) (sym (with_beyond s l f)) h)))
    (cases_Bool (nat_lt l.mark width))
  where
    next : LiteralSet
    next = with_literal s l

    Behind : List Literal → Type 0
    Behind = Stands (fold with_literal next ls).plain (fold with_literal next ls).nots

    there : nat_lt l.mark width ≡ true → Behind ((done ++ l ∷ []) ++ in_width ls) → Behind (done ++ in_width (l ∷ ls))
    there t h =
        subst (λ b. Behind (done ++ cond b (l ∷ in_width ls) (in_width ls))) (sym t)
        (subst Behind (append_assoc done (l ∷ []) (in_width ls)) h)

    beyond : nat_lt l.mark width ≡ false → Behind (done ++ in_width ls) → Behind (done ++ in_width (l ∷ ls))
    beyond f h = subst (λ b. Behind (done ++ cond b (l ∷ in_width ls) (in_width ls))) (sym f) h

pub stands_of : (s : LiteralSet) (ls : List Literal) → Stands s.plain s.nots [] → Stands (fold with_literal s ls).plain (fold with_literal s ls).nots (in_width ls)
stands_of s ls h = stands_behind ls s [] h

-- where all name marks that there are, these are the whole list
pub all_in_width : (ls : List Literal) → MarksInWidth ls → in_width ls ≡ ls
all_in_width [] m = refl
all_in_width (l ∷ ls) m =
    let b = and_parts (nat_lt l.mark width) (list_all (λ k. nat_lt k.mark width) ls) m in
    ap (λ t. cond t (l ∷ in_width ls) (in_width ls)) b.0 ∙ ap (λ ks. l ∷ ks) (all_in_width ls b.1)

-- ---- a literal that stands twice

-- the test whether a literal is l
abbrev is_same : Literal → Literal → Bool
is_same l = cond l.negated (is_not l.mark) (is_plain l.mark)

same_at : (l k : Literal) → is_same l k ≡ cond l.negated (is_not l.mark k) (is_plain l.mark k)
same_at l k = go l.negated
  where
    go : (b : Bool) → (cond {A = Literal → Bool} b (is_not l.mark) (is_plain l.mark)) k ≡ cond b (is_not l.mark k) (is_plain l.mark k)
    go true = refl
    go false = refl

same_turned : (l k : Literal) → is_same l k ≡ is_same k l
same_turned l k = same_at l k ∙ go l.negated k.negated ∙ sym (same_at k l)
  where
    go : (b c : Bool) → cond b (c && k.mark == l.mark) (not c && k.mark == l.mark) ≡ cond c (b && l.mark == k.mark) (not b && l.mark == k.mark)
    go true true = turned k.mark l.mark
    go true false = refl
    go false true = refl
    go false false = turned k.mark l.mark

pub stands_has : (p n : ℕ) (ls : List Literal) (l : Literal) → Stands p n ls → has_literal p n l ≡ list_any (is_same l) ls
stands_has p n ls l h = go l.negated
  where
    go : (b : Bool) → cond b (has n l.mark) (has p l.mark) ≡ list_any (cond b (is_not l.mark) (is_plain l.mark)) ls
    go true = h.not_marks l.mark
    go false = h.plain_marks l.mark

pub distinct_more : (ls : List Literal) (l : Literal) → distinct ls ≡ true → list_any (is_same l) ls ≡ false → distinct (ls ++ l ∷ []) ≡ true
distinct_more [] l d e = refl
distinct_more (k ∷ ls) l d e =
    let b = and_parts (not (list_any (is_same k) ls)) (distinct ls) d in
    let c = neither (is_same l k) (list_any (is_same l) ls) e in
    ap₂ (λ x y. x && y)
    (ap not (any_last (is_same k) ls l ∙ ap₂ (λ x y. x || y) (not-true _ b.0) (same_turned k l ∙ c.0)))
    (distinct_more ls l b.1 c.1)

-- ---- bits of words, and literals that pass a test

-- the test of a literal by two tests of marks
abbrev pick : (ℕ → Bool) → (ℕ → Bool) → Literal → Bool
pick f g l = cond l.negated (g l.mark) (f l.mark)

-- mark i is in a word that the tests make of the two that stand for ls
abbrev bit : (ℕ → Bool) → (ℕ → Bool) → List Literal → ℕ → Bool
bit f g ls i = (list_any (is_plain i) ls && f i) || (list_any (is_not i) ls && g i)

module _ (f g : ℕ → Bool) where
  -- exactly the mark of the literal at hand comes in by it
  bit_more : (l : Literal) (ls : List Literal) (i : ℕ) → bit f g (l ∷ ls) i ≡ ((l.mark == i && pick f g l) || bit f g ls i)
  bit_more l ls i = ⊎_elim same other (cases_Bool (l.mark == i))
    where
      p : Bool
      p = list_any (is_plain i) ls

      n : Bool
      n = list_any (is_not i) ls

      go : (b u v p n : Bool) → ((((not b && true) || p) && u) || (((b && true) || n) && v)) ≡ (cond b v u || ((p && u) || (n && v)))
      go true true true true n = refl
      go true true true false n = refl
      go true false true true n = refl
      go true false true false n = refl
      go true u false true true = refl
      go true u false true false = refl
      go true u false false true = refl
      go true u false false false = refl
      go false true v p n = refl
      go false false v true n = refl
      go false false v false n = refl

      stay : (b u v p n : Bool) → ((((not b && false) || p) && u) || (((b && false) || n) && v)) ≡ ((p && u) || (n && v))
      stay true u v p n = refl
      stay false u v p n = refl

      other : (l.mark == i) ≡ false → bit f g (l ∷ ls) i ≡ ((l.mark == i && pick f g l) || bit f g ls i)
      other e =
          ap (λ c. (((not l.negated && c) || p) && f i) || (((l.negated && c) || n) && g i)) e
          ∙ stay l.negated (f i) (g i) p n
          ∙ sym (ap (λ c. (c && pick f g l) || bit f g ls i) e)

      same : (l.mark == i) ≡ true → bit f g (l ∷ ls) i ≡ ((l.mark == i && pick f g l) || bit f g ls i)
      same e =
          let here : i ≡ l.mark = sym (eqb-true l.mark i e) in
          ap (λ c. (((not l.negated && c) || p) && f i) || (((l.negated && c) || n) && g i)) e
          ∙ go l.negated (f i) (g i) p n
          ∙ ap (λ k. cond l.negated (g k) (f k) || bit f g ls i) here
          ∙ sym (ap (λ c. (c && pick f g l) || bit f g ls i) e)

  -- no bit where no literal passes
  no_bit : (ls : List Literal) (i : ℕ) → list_any (pick f g) ls ≡ false → bit f g ls i ≡ false
  no_bit [] i e = refl
  no_bit (l ∷ ls) i e =
      let b = neither (pick f g l) (list_any (pick f g) ls) e in
      bit_more l ls i ∙ ap₂ (λ c d. (l.mark == i && c) || d) b.0 (no_bit ls i b.1) ∙ nothing (l.mark == i)
    where
      nothing : (b : Bool) → ((b && false) || false) ≡ false
      nothing true = refl
      nothing false = refl

  -- and a bit where one does
  some_bit : (ls : List Literal) → MarksInWidth ls → list_any (pick f g) ls ≡ true → (i : ℕ) × (i < width) × (bit f g ls i ≡ true)
  some_bit [] m e = absurd (cc)
  some_bit (l ∷ ls) m e =
      let b = and_parts (nat_lt l.mark width) (list_all (λ k. nat_lt k.mark width) ls) m in
      ⊎_elim
      (λ t. (
        l.mark,
        ltb-true l.mark width b.0,
        bit_more l ls l.mark ∙ or_left (l.mark == l.mark && pick f g l) (bit f g ls l.mark) (ap₂ (λ c d. c && d) (eq-eqb l.mark l.mark (omega arith)) t),
      ))
      (λ t. let r = some_bit ls b.1 t in
      (r.0, r.1, bit_more l ls r.0 ∙ or_right (l.mark == r.0 && pick f g l) (bit f g ls r.0) r.2))
      (or_cases (pick f g l) (list_any (pick f g) ls) e)

  -- the word is 0 exactly where no literal passes
  word_none : (ls : List Literal) (w : ℕ) → MarksInWidth ls → w < 2 ^ width → ((i : ℕ) → i < width → has w i ≡ bit f g ls i)
      → (w == 0) ≡ not (list_any (pick f g) ls)
  word_none ls w m word same = ⊎_elim
      (λ t. let r = some_bit ls m t in
      ne_eqb w 0 (λ e. both_ways (has w r.0) (ap (λ q. has q r.0) e ∙ has_none r.0) (same r.0 r.1 ∙ r.2)) ∙ sym (ap not t))
      (λ e. eq-eqb w 0 (same_marks width w 0 word (pow_pos width) (λ i lt. same i lt ∙ no_bit ls i e ∙ sym (has_none i))) ∙ sym (ap not e))
      (cases_Bool (list_any (pick f g) ls))

module _ (p n t a : ℕ) (ls : List Literal) (pw : p < 2 ^ width) (nw : n < 2 ^ width) (tw : t < 2 ^ width) (aw : a < 2 ^ width) (h : Stands p n ls) where
  -- what `plain & there | nots & !among` has
  held_bits : (i : ℕ) → i < width → has (bit_or (bit_and p t) (bit_and n (others a))) i ≡ bit (has t) (λ i. not (has a i)) ls i
  held_bits i lt =
      has_or (bit_and p t) (bit_and n (others a)) i
      ∙ ap₂ (λ b c. b || c)
      (has_and p t i ∙ ap (λ b. b && has t i) (h.plain_marks i))
      (has_and n (others a) i ∙ ap₂ (λ b c. b && c) (h.not_marks i) (has_others a aw i lt))

  pub one_held : (bit_or (bit_and p t) (bit_and n (others a)) == 0) ≡ not (list_any (held (by_words t a)) ls)
  one_held = word_none (has t) (λ i. not (has a i)) ls _ h.marks
      (or_lt width (bit_and p t) (bit_and n (others a)) (and_lt width p t pw tw) (and_lt width n (others a) nw (others_word a aw))) held_bits

  -- what `plain & !there | nots & among` has
  unheld_bits : (i : ℕ) → i < width → has (bit_or (bit_and p (others t)) (bit_and n a)) i ≡ bit (λ i. not (has t i)) (has a) ls i
  unheld_bits i lt =
      has_or (bit_and p (others t)) (bit_and n a) i
      ∙ ap₂ (λ b c. b || c)
      (has_and p (others t) i ∙ ap₂ (λ b c. b && c) (h.plain_marks i) (has_others t tw i lt))
      (has_and n a i ∙ ap (λ b. b && has a i) (h.not_marks i))

  pub all_held : (bit_or (bit_and p (others t)) (bit_and n a) == 0) ≡ list_all (held (by_words t a)) ls
  all_held = word_none (λ i. not (has t i)) (has a) ls _ h.marks
      (or_lt width (bit_and p (others t)) (bit_and n a) (and_lt width p (others t) pw (others_word t tw)) (and_lt width n a nw aw)) unheld_bits
      ∙ none_unheld ls
    where
      turn : (b u v : Bool) → not (cond b v (not u)) ≡ cond b (not v) u
      turn true u v = refl
      turn false true v = refl
      turn false false v = refl

      split : (b c : Bool) → not (b || c) ≡ (not b && not c)
      split true c = refl
      split false c = refl

      none_unheld : (ls : List Literal) → not (list_any (pick (λ i. not (has t i)) (has a)) ls) ≡ list_all (held (by_words t a)) ls
      none_unheld [] = refl
      none_unheld (l ∷ ls) =
          split (pick (λ i. not (has t i)) (has a) l) (list_any (pick (λ i. not (has t i)) (has a)) ls)
          ∙ ap₂ (λ b c. b && c) (turn l.negated (has t l.mark) (has a l.mark)) (none_unheld ls)

  -- ---- literals that are counted

  counts : (ks : List Literal) → MarksInWidth ks → distinct ks ≡ true
      → marks_where width (λ i. list_any (is_plain i) ks && has t i) + marks_where width (λ i. list_any (is_not i) ks && not (has a i)) ≡ count_by (held (by_words t a)) ks
  counts [] m d = omega (arith, marks_none width)
  counts (l ∷ ks) m d =
      let b = and_parts (nat_lt l.mark width) (list_all (λ k. nat_lt k.mark width) ks) m in
      let c = and_parts (not (list_any (cond l.negated (is_not l.mark) (is_plain l.mark)) ks)) (distinct ks) d in
      go l.negated (ltb-true l.mark width b.0) c.0 (counts ks b.1 c.1) ∙ sym (sum_by-cons (λ k. cond (held (by_words t a) k) 1 0) l ks)
    where
      go : (b : Bool) → l.mark < width → not (list_any (cond b (is_not l.mark) (is_plain l.mark)) ks) ≡ true
          → marks_where width (λ i. list_any (is_plain i) ks && has t i) + marks_where width (λ i. list_any (is_not i) ks && not (has a i)) ≡ count_by (held (by_words t a)) ks
          → marks_where width (λ i. ((not b && l.mark == i) || list_any (is_plain i) ks) && has t i)
          + marks_where width (λ i. ((b && l.mark == i) || list_any (is_not i) ks) && not (has a i))
          ≡ cond (cond b (not (has a l.mark)) (has t l.mark)) 1 0 + count_by (held (by_words t a)) ks
      go true lt fresh rest =
          let more = marks_more width l.mark (λ i. list_any (is_not i) ks) (λ i. not (has a i)) lt (not-true _ fresh) in
          omega (arith, more, rest)
      go false lt fresh rest =
          let more = marks_more width l.mark (λ i. list_any (is_plain i) ks) (has t) lt (not-true _ fresh) in
          omega (arith, more, rest)

  pub count_held : distinct ls ≡ true → ones (bit_and p t) + ones (bit_and n (others a)) ≡ count_by (held (by_words t a)) ls
  count_held d =
      ap₂ (λ x y. x + y)
      (ones_where (bit_and p t) (λ i. list_any (is_plain i) ls && has t i) (and_lt width p t pw tw)
      (λ i lt. has_and p t i ∙ ap (λ b. b && has t i) (h.plain_marks i)))
      (ones_where (bit_and n (others a)) (λ i. list_any (is_not i) ls && not (has a i)) (and_lt width n (others a) nw (others_word a aw))
      (λ i lt. has_and n (others a) i ∙ ap₂ (λ b c. b && c) (h.not_marks i) (has_others a aw i lt)))
      ∙ counts ls h.marks d

pub not_not : (b : Bool) → not (not b) ≡ b
not_not true = refl
not_not false = refl
