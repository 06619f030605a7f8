-- The place of a search as a part-sheet: its marks, the sheets within it, and the sheets before it.
use Rattle.std.proofs.Common.{◌≡◌, ℕ, ◌-◌, ◌^◌, ◌<◌, ◌≤◌, min, true, false, not, ◌||◌, ◌⊎◌, Decides, sym, ap, ◌∙◌, inl, inr, ⊎_elim, arith, pow_mono}
use lib.Bits.{and_lt, or_lt}
use lib.Pow.{ones_lt}
use Rattle.std.proofs.lemmas.Bool.{both_ways, cases_lt, cases_Bool, and_parts, and_from, and_left, or_cases, or_left, or_right}
use Rattle.sheets.specs.Sheets.{width, has, others, first_marks, MarksBelow, Part, Within, Full, full}
use Rattle.sheets.specs.laws.Bits.{has_high, has_and, has_or, has_first, below_marks, marks_below, same_marks}
use Rattle.sheets.specs.laws.Parts.{others_word, has_others, others_apart, deciding_apart, decides_full}
use Rattle.orders.specs.Search.{Search}
use Rattle.orders.specs.Places.{DecidesFirst, LiesBefore}
use Rattle.orders.proofs.Dismissals.{Well, Agrees, Precedes}
use Rattle.orders.specs.Searches.{decided_at, present_at, absent_at}

first_word : (k : ℕ) → first_marks k < 2 ^ width
first_word k =
    let wide : 2 ^ min k width ≤ 2 ^ width = pow_mono {i = min k width} {j = width} (omega arith) in
    omega (arith, ones_lt (min k width))

module _ (k : ℕ) (few : k ≤ width) where
  first_is : first_marks k ≡ 2 ^ k - 1
  first_is = let e : min k width ≡ k = omega arith in ap (λ n. 2 ^ n - 1) e

  first_low : (i : ℕ) → i < k → has (first_marks k) i ≡ true
  first_low i lt = ap (λ q. has q i) first_is ∙ has_first k i lt

  first_high : (i : ℕ) → k ≤ i → has (first_marks k) i ≡ false
  first_high i from = ap (λ q. has q i) first_is ∙ has_high k (2 ^ k - 1) i (ones_lt k) from

module _ (n : ℕ) (x : Search) (few : n ≤ width) (well : Well width x) where
  decided_word : decided_at n x < 2 ^ width
  decided_word = or_lt width (first_marks x.depth) (others (first_marks n)) (first_word x.depth) (others_word (first_marks n) (first_word n))

  pub place_word : x.present < 2 ^ width
  place_word =
      let wide : 2 ^ x.depth ≤ 2 ^ width = pow_mono {i = x.depth} {j = width} well.few in
      omega (arith, well.low)

  has_decided : (i : ℕ) → has (decided_at n x) i ≡ (has (first_marks x.depth) i || has (others (first_marks n)) i)
  has_decided = has_or (first_marks x.depth) (others (first_marks n))

  -- the marks below the depth are decided
  decided_low : (i : ℕ) → i < x.depth → has (decided_at n x) i ≡ true
  decided_low i lt = has_decided i ∙ or_left (has (first_marks x.depth) i) (has (others (first_marks n)) i) (first_low x.depth (omega (arith, well.few)) i lt)

  -- and so are those from the count upward
  decided_high : (i : ℕ) → n ≤ i → i < width → has (decided_at n x) i ≡ true
  decided_high i from lt =
      has_decided i
      ∙ or_right (has (first_marks x.depth) i) (has (others (first_marks n)) i) (has_others (first_marks n) (first_word n) i lt ∙ ap not (first_high n few i from))

  -- and no others
  decided_where : (i : ℕ) → has (decided_at n x) i ≡ true → (i < x.depth) ⊎ (n ≤ i)
  decided_where i t = ⊎_elim
      (λ low. inl (⊎_elim (λ lt. lt) (λ from. absurd (both_ways (has (first_marks x.depth) i) (first_high x.depth (omega (arith, well.few)) i from) low)) (cases_lt i x.depth)))
      (λ high. inr (⊎_elim (λ lt. absurd (both_ways (has (others (first_marks n)) i) (others_apart (first_marks n) (first_word n) i (first_low n few i lt)) high)) (λ from. from) (cases_lt i n)))
      (or_cases (has (first_marks x.depth) i) (has (others (first_marks n)) i) (sym (has_decided i) ∙ t))

  pub present_decided : MarksBelow x.depth x.present
  present_decided = below_marks x.depth x.present well.low

  -- ---- the marks of the place

  pub has_present : (i : ℕ) → has (present_at n x) i ≡ has x.present i
  unfolding present_at
  has_present i = has_and x.present (decided_at n x) i ∙ ⊎_elim
      (λ t. and_from (has x.present i) (has (decided_at n x) i) t (decided_low i (present_decided i t)) ∙ sym t)
      (λ f. and_left (has x.present i) (has (decided_at n x) i) f ∙ sym f)
      (cases_Bool (has x.present i))

  pub present_same : present_at n x ≡ x.present
  unfolding present_at
  present_same = same_marks width (present_at n x) x.present (and_lt width x.present (decided_at n x) place_word decided_word) place_word (λ i lt. has_present i)

  absent_parts : (i : ℕ) → has (absent_at n x) i ≡ true → (has (others x.present) i ≡ true) × (has (decided_at n x) i ≡ true)
  unfolding absent_at
  absent_parts i t = and_parts (has (others x.present) i) (has (decided_at n x) i) (sym (has_and (others x.present) (decided_at n x) i) ∙ t)

  -- an absent mark is not present, and is decided or not below the count
  pub absent_lacks : (i : ℕ) → has (absent_at n x) i ≡ true → has x.present i ≡ false
  absent_lacks i t = ⊎_elim
      (λ u. absurd (both_ways (has (others x.present) i) (others_apart x.present place_word i u) (absent_parts i t).0))
      (λ f. f)
      (cases_Bool (has x.present i))

  absent_where : (i : ℕ) → has (absent_at n x) i ≡ true → (i < x.depth) ⊎ (n ≤ i)
  absent_where i t = decided_where i (absent_parts i t).1

  -- and what is neither present nor open is absent
  pub lacks_absent : (i : ℕ) → i < width → has x.present i ≡ false → (i < x.depth) ⊎ (n ≤ i) → has (absent_at n x) i ≡ true
  unfolding absent_at
  lacks_absent i lt f which =
      has_and (others x.present) (decided_at n x) i
      ∙ and_from (has (others x.present) i) (has (decided_at n x) i)
      (has_others x.present place_word i lt ∙ ap not f)
      (⊎_elim (decided_low i) (λ from. decided_high i from lt) which)

  -- ---- the sheets within

  pub place_part : Part (present_at n x) (absent_at n x)
  unfolding present_at absent_at
  place_part = record {
    present_word = and_lt width x.present (decided_at n x) place_word decided_word;
    absent_word = and_lt width (others x.present) (decided_at n x) (others_word x.present place_word) decided_word;
    apart = deciding_apart (decided_at n x) x.present decided_word place_word;
  }

  -- a sheet of marks below the count lies within exactly if it agrees
  pub place_within : (z : ℕ) → MarksBelow n z → Agrees x.depth x.present z → Within (present_at n x) (absent_at n x) z
  place_within z below agrees =
      let small = marks_below n z below in
      let wide : 2 ^ n ≤ 2 ^ width = pow_mono {i = n} {j = width} few in
      record {
        word = omega arith;
        all = λ i t. let u = sym (has_present i) ∙ t in agrees i (present_decided i u) ∙ u;
        none = λ i t. ⊎_elim
            (λ lt. agrees i lt ∙ absent_lacks i t)
            (λ from. has_high n z i small from)
            (absent_where i t);
      }

  pub within_agrees : (z : ℕ) → Within (present_at n x) (absent_at n x) z → Agrees x.depth x.present z
  within_agrees z within i lt = ⊎_elim
      (λ t. within.all i (has_present i ∙ t) ∙ sym t)
      (λ f. within.none i (lacks_absent i (omega (arith, well.few)) f (inl lt)) ∙ sym f)
      (cases_Bool (has x.present i))

  -- ---- which marks it decides

  -- the next mark is neither present nor absent
  open_present : (i : ℕ) → x.depth ≤ i → has (present_at n x) i ≡ false
  open_present i from = has_present i ∙ has_high x.depth x.present i well.low from

  open_absent : (i : ℕ) → x.depth ≤ i → i < n → has (absent_at n x) i ≡ false
  open_absent i from lt = ⊎_elim
      (λ t. absurd (⊎_elim (λ (low : i < x.depth). omega arith) (λ (high : n ≤ i). omega arith) (absent_where i t)))
      (λ f. f)
      (cases_Bool (has (absent_at n x) i))

  -- where all marks below the count are decided, the place is full
  pub place_full : n ≤ x.depth → Full (present_at n x) (absent_at n x)
  place_full all i lt = ⊎_elim
      (λ t. inl (has_present i ∙ t))
      (λ f. inr (lacks_absent i lt f (⊎_elim inl (λ from. inr (omega arith)) (cases_lt i x.depth))))
      (cases_Bool (has x.present i))

  -- and only there
  pub full_depth : Full (present_at n x) (absent_at n x) → n ≤ x.depth
  full_depth every = ⊎_elim
      (λ (lt : x.depth < n). absurd (⊎_elim
      (both_ways (has (present_at n x) x.depth) (open_present x.depth (omega arith)))
      (both_ways (has (absent_at n x) x.depth) (open_absent x.depth (omega arith) lt))
      (every x.depth (omega arith))))
      (λ le. le)
      (cases_lt x.depth n)

  decides : Decides (full (present_at n x) (absent_at n x)) (Full (present_at n x) (absent_at n x))
  decides = decides_full (present_at n x) (absent_at n x) place_part.present_word place_part.absent_word

  -- the same of the test
  pub full_all : full (present_at n x) (absent_at n x) ≡ true → n ≤ x.depth
  full_all t = full_depth (decides.0 t)

  pub full_open : full (present_at n x) (absent_at n x) ≡ false → x.depth < n
  full_open f = ⊎_elim
      (λ lt. lt)
      (λ le. absurd (both_ways (full (present_at n x) (absent_at n x)) f (decides.1 (place_full le))))
      (cases_lt x.depth n)

  -- of the marks below the count the first are decided, and no others
  pub decides_first : x.depth ≤ n → DecidesFirst n x.depth (present_at n x) (absent_at n x)
  decides_first most = record {
    few = most;
    decided = λ i lt. ⊎_elim
        (λ t. inl (has_present i ∙ t))
        (λ f. inr (lacks_absent i (omega arith) f (inl lt)))
        (cases_Bool (has x.present i));
    open_marks = λ i from lt. (open_present i from, open_absent i from lt);
    beyond = λ i from lt. lacks_absent i lt (has_high x.depth x.present i well.low (omega arith)) (inr from);
    full = ((λ every. omega (arith, full_depth every)), (λ e. place_full (omega arith)));
  }

  -- ---- the sheets before

  pub precedes_lies : (z : ℕ) → Precedes x.depth x.present z → LiesBefore (present_at n x) (absent_at n x) z
  precedes_lies z p = record {
    mark = p.mark;
    there = has_present p.mark ∙ p.there;
    lacks = p.lacks;
    same_present = λ i lt t. p.agree i lt ∙ sym (has_present i) ∙ t;
    same_absent = λ i lt t. p.agree i lt ∙ absent_lacks i t;
  }

  pub lies_precedes : (z : ℕ) → LiesBefore (present_at n x) (absent_at n x) z → Precedes x.depth x.present z
  lies_precedes z l =
      let there : has x.present l.mark ≡ true = sym (has_present l.mark) ∙ l.there in
      let decided = present_decided l.mark there in
      record {
        mark = l.mark;
        decided = decided;
        lacks = l.lacks;
        there = there;
        agree = λ i lt. ⊎_elim
            (λ t. l.same_present i lt (has_present i ∙ t) ∙ sym t)
            (λ f. l.same_absent i lt (lacks_absent i (omega (arith, well.few)) f (inl (omega arith))) ∙ sym f)
            (cases_Bool (has x.present i));
      }
