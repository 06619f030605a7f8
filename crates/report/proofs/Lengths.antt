-- How long the lines of a report can be.
use Rattle.std.proofs.Common.{ℕ, zero, suc, ◌+◌, ◌*◌, ◌/◌, ◌%◌, ◌<◌, ◌≤◌, Bool, true, false, cond, eqb, List, [], ◌∷◌, ◌++◌, map, length, ℤ, pos, negsuc, neg_ℤ, ◌≤ℤ◌, Some, None, codes, decimal, filter, get_or, Option, arith}
use lib.Signed.{mag, le_z}
use Rattle.std.specs.List.{All, AllByRecursion, range_with_len}
use Rattle.std.specs.Fmt.{signed_decimal, digits, digits_onto, digit_glyph}
use Rattle.std.proofs.lemmas.Fmt.{length-decimal-le, length_signed_le}
use Rattle.std.proofs.lemmas.List.{length-append}
use Rattle.std.proofs.lemmas.List.Elements.{All-nil, All-cons, All-filter}
use Rattle.std.proofs.lemmas.List.FromFn.{get_or-range_with_len}
use Rattle.std.proofs.lemmas.List.Sums.{length-filter, count_by-le-length}
use Rattle.std.proofs.lemmas.Int.{ints}
use Rattle.std.proofs.lemmas.Bool.{and_parts}
use Rattle.sheets.specs.Sheets.{width, has}
use Rattle.rulefile.specs.declared.records.Act.{Act}
use Rattle.rulefile.specs.declared.refusals.BadFile.{BadFile}
use Rattle.rulefile.specs.declared.wishes.Wish.{Wish}
use Rattle.rulefile.specs.declared.files.RuleFile.{RuleFile}
use Rattle.rulefile.specs.Answers.{file_of}
use Rattle.rulefile.specs.Model.{WishModel, wish_of}
use Rattle.rulefile.specs.WeakConstraints.{WeakModel, weak_constraints_of}
use Rattle.rulefile.specs.Numbers as file-number
use Rattle.rulefile.specs.Words.{bad_file_words}
use Rattle.rulefile.proofs.Fits.{fit_parts}
use Rattle.scales.specs.Wishes.{weak_cost, sum_at, level_cost, top, down_from}
use Rattle.scales.specs.laws.Groups.{weak_few, weak_each}
use Rattle.sheets.specs.laws.Counting.{marks_most}
use Rattle.scales.specs.Distances.{differ_at, distance_of}
use Rattle.orders.specs.declared.acts.Act.{Act as Standing}
use Rattle.orders.specs.declared.acts.Refusal.{Refusal}
use Rattle.orders.specs.declared.acts.Refusal.TheVariants.{MarkRange, MarkTaken, SheetStruck, DocketFull, DocketEmpty}
use Rattle.orders.specs.Logs.{after_call}
use Rattle.orders.specs.Numbers.{number}
use Rattle.report.specs.Lines.{line_end, bad_file_line, act_line, call_of, refused_by, act_lines, spaced, marks, sheet_line, no_sheet_line, answer_line}
use Rattle.report.proofs.Texts.{length-spaced-le}

-- ---- numbers

two_digits : (n : ℕ) → n < 100 → length (decimal n) ≤ 2
two_digits n lt = length-decimal-le 2 n (omega arith) (omega arith) (omega arith)

spelled_length : (k n : ℕ) (acc : List ℕ) → length (digits_onto k 10 false n acc) ≤ k + length acc
spelled_length zero n acc = omega arith
spelled_length (suc k) n acc = go (eqb (n / 10) 0) (spelled_length k (n / 10) (digit_glyph false (n % 10) ∷ acc))
  where
    go : (b : Bool) → length (digits_onto k 10 false (n / 10) (digit_glyph false (n % 10) ∷ acc)) ≤ k + suc (length acc)
        → length (cond b (digit_glyph false (n % 10) ∷ acc) (digits_onto k 10 false (n / 10) (digit_glyph false (n % 10) ∷ acc))) ≤ suc k + length acc
    go true le = omega arith
    go false le = omega arith

-- the definition writes no more than 64 digits
decimal_length : (n : ℕ) → length (decimal n) ≤ 64
unfolding digits
decimal_length n = omega (arith, spelled_length 64 n [])

act_number : (why : Refusal) → number why < 100
act_number MarkRange = omega arith
act_number MarkTaken = omega arith
act_number SheetStruck = omega arith
act_number DocketFull = omega arith
act_number DocketEmpty = omega arith

-- ---- a bad file

pub bad_file_short : (bad : BadFile) → length (bad_file_line bad) ≤ 4096
unfolding bad_file_line
bad_file_short bad =
    let n = decimal (file-number.number bad.why) in
    let at = decimal bad.at in
    omega (
      arith,
      decimal_length (file-number.number bad.why),
      decimal_length bad.at,
      length-append n (codes " at " ++ at),
      length-append (bad_file_words bad) line_end,
    )

-- ---- acts

act_length : (why : Option Refusal) → length (act_line why) ≤ 11
unfolding act_line
act_length None = omega arith
act_length (Some why) = omega (arith, two_digits (number why) (act_number why), length-append (decimal (number why)) line_end)

acts_length : (n : ℕ) (standing : List Standing) (acts : List Act) → length (act_lines n standing acts) ≤ 11 * length acts
acts_length n standing [] = omega arith
acts_length n standing (a ∷ acts) =
    omega (
      arith,
      act_length (refused_by n standing a),
      acts_length n (after_call n standing (call_of a)) acts,
      length-append (act_line (refused_by n standing a)) (act_lines n (after_call n standing (call_of a)) acts),
    )

-- ---- marks

marks_length : (z : ℕ) → length (spaced decimal (marks z)) ≤ 192
unfolding marks
marks_length z =
    let all_marks = range_with_len 0 width in
    let short : All (λ m. length (decimal m) ≤ 2) all_marks = λ i d lt. two_digits (get_or all_marks i d) (omega (arith, get_or-range_with_len 0 width i d lt)) in
    omega (
      arith,
      length-spaced-le decimal 2 (filter (has z) all_marks) (All-filter (has z) (λ m. length (decimal m) ≤ 2) all_marks short),
      length-filter (has z) all_marks,
      count_by-le-length (has z) all_marks,
    )

-- ---- levels

down_from_short : (n : ℕ) (g : ℕ → ℤ) → ((m : ℕ) → length (signed_decimal (g m)) ≤ 11) → All (λ c. length (signed_decimal c) ≤ 11) (down_from n g)
down_from_short zero g short = All-nil (λ c. length (signed_decimal c) ≤ 11)
down_from_short (suc n) g short = All-cons (λ c. length (signed_decimal c) ≤ 11) (g (suc n)) (down_from n g) (short (suc n)) (down_from_short n g short)

-- the number, or its negative, is at most k
abbrev Within : ℕ → ℤ → Type 0
Within k v = (neg_ℤ (pos k) ≤ℤ v) × (v ≤ℤ pos k)

-- a sum of at most 256 weights
sum_length : (z : ℤ) (k : ℕ) → k ≤ 256 → Within (10000 * k) z → length (signed_decimal z) ≤ 11
sum_length z k le in_bounds = length_signed_le 10 z (omega (arith, small z k le in_bounds)) (omega (arith, small z k le in_bounds))
  where
    small : (z : ℤ) (k : ℕ) → k ≤ 256 → Within (10000 * k) z → mag z ≤ 2560000
    small (pos n) k le in_bounds = omega (arith, ints, in_bounds.1)
    small (negsuc n) k le in_bounds = omega (arith, ints, in_bounds.0)

-- the weight is in its range
abbrev InRange : ℤ → Type 0
InRange w = (neg_ℤ (pos 10000) ≤ℤ w) × (w ≤ℤ pos 10000)

weights_in_range : (wishes : List Wish) → AllByRecursion (λ (w : WishModel). InRange w.weight) (map wish_of wishes)
weights_in_range [] = tt
weights_in_range (w ∷ ws) =
    let t = and_parts (le_z (negsuc 9999) w.weight) (le_z w.weight (pos 10000)) w.weighed in
    ((grind (arith, ints, t.0), grind (arith, ints, t.1)), weights_in_range ws)

module _ (z n : ℕ) where
  part_bounds : (w : ℤ) (b c : Bool) → InRange w → Within 10000 (cond b (cond c w (pos 0)) (pos 0))
  part_bounds w true true r = r
  part_bounds w true false r = (omega (arith, ints), omega (arith, ints))
  part_bounds w false c r = (omega (arith, ints), omega (arith, ints))

  sum_bounds : (cs : List WeakModel) → AllByRecursion (λ (c : WeakModel). InRange c.weight) cs → Within (10000 * length cs) (sum_at (weak_cost z) cs n)
  sum_bounds [] h = (omega (arith, ints), omega (arith, ints))
  sum_bounds (c ∷ cs) h =
      let first : Within 10000 (cond (eqb c.level n) (weak_cost z c) (pos 0)) = part_bounds c.weight _ _ h.0 in
      let rest = sum_bounds cs h.1 in
      (omega (arith, ints, first.0, rest.0), omega (arith, ints, first.1, rest.1))

-- ---- the sheet

sheet_length : (z distance : ℕ) (levels : List ℤ) → length (spaced signed_decimal levels) ≤ 96 → distance < 100 → length (sheet_line z levels distance) ≤ 306
unfolding sheet_line
sheet_length z distance levels short lt =
    let ms = spaced decimal (marks z) in
    let ls = spaced signed_decimal levels in
    omega (
      arith,
      marks_length z,
      two_digits distance lt,
      length-append ms (codes " cost" ++ (ls ++ (codes " off " ++ (decimal distance ++ line_end)))),
      length-append ls (codes " off " ++ (decimal distance ++ line_end)),
      length-append (decimal distance) line_end,
    )

module _ (file : RuleFile) where
  abbrev constraints : List WeakModel
  constraints = weak_constraints_of (map wish_of file.wishes.items)

  few_constraints : length constraints ≤ 256
  few_constraints = omega (arith, (fit_parts _ file.fit).few_wishes, weak_few (map wish_of file.wishes.items))

  answer_length : (held : Option ℕ) → length (answer_line (file_of file) held) ≤ 306
  unfolding no_sheet_line
  answer_length None = omega arith
  answer_length (Some z) =
      let sums = level_cost z (file_of file).wishes in
      let ranges = weak_each (λ level weight. InRange weight) (map wish_of file.wishes.items) (weights_in_range file.wishes.items) in
      let each : (m : ℕ) → length (signed_decimal (sums m)) ≤ 11 = λ m. sum_length (sums m) (length constraints) few_constraints (sum_bounds z m constraints ranges) in
      sheet_length z ((distance_of file.house).cost z) (down_from top sums) (length-spaced-le signed_decimal 11 (down_from top sums) (down_from_short top sums each)) (omega (arith, marks_most width (differ_at z file.house)))

  pub lines_short : (held : Option ℕ) → length (act_lines file.count [] file.acts.items ++ answer_line (file_of file) held) ≤ 4096
  lines_short held =
      omega (arith, length-append (act_lines file.count [] file.acts.items) (answer_line (file_of file) held), acts_length file.count [] file.acts.items, answer_length held, (fit_parts _ file.fit).few_acts)
