-- Lemmas; no contract names what stands here. The laws of the book.
use Rattle.std.specs.Prelude.{◌≡◌, ℕ, ◌-◌, ◌^◌, ◌<◌, ◌≤◌, true, false, not, ◌&&◌, List, [], ◌∷◌, Some, None, Option, ◌≢◌, bit_and, nat_le, nat_lt, refl}
use Rattle.std.proofs.Common.{ap, subst, ◌∙◌, ⊎_elim, arith}
use Rattle.std.specs.Int.Bits.{mask_lt}
use Rattle.std.specs.List.{AllByRecursion}
use Rattle.std.proofs.ByRecursion.{All-append}
use Rattle.std.proofs.lemmas.Bool.{both_ways, cases_Bool, and_from, and_parts, and_cases, and_left, and_right, or_cases, or_parts, or_from, not-true, not-false, leb-true, le-leb, lt-leb, ltb-true}
use Rattle.std.specs.List.{list_all, list_any}
use Rattle.sheets.specs.Sheets.{has, Part, Within, full, MarksBelow}
use Rattle.sheets.specs.Literals.{held, holds, in_every, in_some}
use Rattle.sheets.specs.Judging.{JudgeLaws}
use Rattle.sheets.specs.laws.Bits.{has_and, has_first, below_marks}
use Rattle.sheets.proofs.Subsets.{subset_le}
use Rattle.sheets.specs.laws.Parts.{decides_full, within_full, within_itself}
use Rattle.sheets.proofs.Held.{sure_holds, holds_possible}
use Rattle.rulefile.specs.declared.constraints.Element.{Element}
use Rattle.rulefile.specs.Model.{ConstraintModel, RuleModel, FileModel}
use Rattle.rulefile.specs.Laws.{RuleBelow, Fits}
use Rattle.judges.specs.Programs.{weigh, at_most, satisfied, rule_holds, reduct_of_rule, reduct, Obeys, AnswerSet}
use Rattle.judges.specs.Books.{lawful, least, greatest, sure, hopeless, dead_rule, book_of}
use Rattle.judges.specs.laws.Reached.{weigh_le, HeadsIn, rule_to, heads_inside}
use Rattle.judges.specs.laws.Grounds.{lawful_yes, lawful_from}

-- ---- an allowed sheet has only marks below the count
module _ (z n : ℕ) where
  low : ℕ
  low = bit_and z (2 ^ n - 1)

  low_has : (i : ℕ) → has z i ≡ true → i < n → has low i ≡ true
  unfolding low
  low_has i t lt = has_and z (2 ^ n - 1) i ∙ and_from (has z i) (has (2 ^ n - 1) i) t (has_first n i lt)

  low_heads : (es : List Element) → AllByRecursion (λ (e : Element). e.literal.mark < n) es → HeadsIn z z es → HeadsIn z low es
  low_heads [] h a = tt
  low_heads (e ∷ es) h a = (λ p. low_has e.literal.mark (a.0 p) h.0, low_heads es h.1 a.1)

  low_obeys : (program : List RuleModel) → AllByRecursion (RuleBelow n) program → AllByRecursion (Obeys low) (reduct z program)
  low_obeys [] h = tt
  low_obeys (r ∷ rs) h =
      All-append (Obeys low) (reduct_of_rule z r) (reduct z rs)
      (rule_to z low r (λ _. low_heads r.head.elements h.0.0 (heads_inside z r.head.elements)))
      (low_obeys rs h.1)

  pub inside : (program : List RuleModel) → AllByRecursion (RuleBelow n) program → AnswerSet program z → MarksBelow n z
  unfolding low
  inside program h a =
      let le = subset_le z low (a.grounded.least low (low_obeys program h)) in
      below_marks n z (omega (arith, mask_lt z n))

-- ---- sums within a part-sheet
module _ (p a z : ℕ) (part : Part p a) (w : Within p a z) where
  least_le : (k : ConstraintModel) → least p a k ≤ weigh (holds z) k.elements
  least_le k = weigh_le (held (in_every p a)) (holds z) (sure_holds p a z part w) k.elements

  le_greatest : (k : ConstraintModel) → weigh (holds z) k.elements ≤ greatest p a k
  le_greatest k = weigh_le (holds z) (held (in_some p a)) (holds_possible p a z part w) k.elements

  at_most_less : (m n : ℕ) (high : Option ℕ) → m ≤ n → at_most n high ≡ true → at_most m high ≡ true
  at_most_less m n None le h = refl
  at_most_less m n (Some b) le h = le-leb m b (omega (arith, leb-true n b h))

  sure_satisfied : (k : ConstraintModel) → sure p a k ≡ true → satisfied z k ≡ true
  sure_satisfied k h =
      let b = and_parts (nat_le k.low (least p a k)) (at_most (greatest p a k) k.high) h in
      and_from (nat_le k.low (weigh (holds z) k.elements)) (at_most (weigh (holds z) k.elements) k.high)
      (le-leb k.low (weigh (holds z) k.elements) (omega (arith, leb-true k.low (least p a k) b.0, least_le k)))
      (at_most_less (weigh (holds z) k.elements) (greatest p a k) k.high (le_greatest k) b.1)

  sure_all : (ks : List ConstraintModel) → list_all (sure p a) ks ≡ true → list_all (satisfied z) ks ≡ true
  sure_all [] h = refl
  sure_all (k ∷ ks) h = let b = and_parts (sure p a k) (list_all (sure p a) ks) h in and_from (satisfied z k) (list_all (satisfied z) ks) (sure_satisfied k b.0) (sure_all ks b.1)

  hopeless_fails : (k : ConstraintModel) → hopeless p a k ≡ true → satisfied z k ≡ false
  hopeless_fails k h = ⊎_elim
      (λ t. and_left (nat_le k.low (weigh (holds z) k.elements)) (at_most (weigh (holds z) k.elements) k.high)
      (lt-leb k.low (weigh (holds z) k.elements) (omega (arith, ltb-true (greatest p a k) k.low t, le_greatest k))))
      (λ t. and_right (nat_le k.low (weigh (holds z) k.elements)) (at_most (weigh (holds z) k.elements) k.high)
      (⊎_elim (λ y. absurd (both_ways (at_most (least p a k) k.high) (not-true (at_most (least p a k) k.high) t) (at_most_less (least p a k) (weigh (holds z) k.elements) k.high (least_le k) y))) (λ f. f)
      (cases_Bool (at_most (weigh (holds z) k.elements) k.high))))
      (or_cases (nat_lt (greatest p a k) k.low) (not (at_most (least p a k) k.high)) h)

  dead_fails : (r : RuleModel) → dead_rule p a r ≡ true → rule_holds z r ≡ false
  dead_fails r h =
      let b = and_parts (hopeless p a r.head) (list_all (sure p a) r.body) h in
      or_from (satisfied z r.head) (not (list_all (satisfied z) r.body)) (hopeless_fails r.head b.0) (ap not (sure_all r.body b.1))

  dead_none : (program : List RuleModel) → list_any (dead_rule p a) program ≡ true → list_all (rule_holds z) program ≢ true
  dead_none [] d h = both_ways false refl d
  dead_none (r ∷ rs) d h =
      let b = and_parts (rule_holds z r) (list_all (rule_holds z) rs) h in
      ⊎_elim (λ t. both_ways (rule_holds z r) (dead_fails r t) b.0) (λ t. dead_none rs t b.1) (or_cases (dead_rule p a r) (list_any (dead_rule p a) rs) d)

-- ---- the laws

module _ (f : FileModel) (fits : Fits f) where
  dead_sound : (p a z : ℕ) → Part p a → (book_of f).dead p a ≡ true → Within p a z → AnswerSet f.rules z → ⊥
  dead_sound p a z part dead w al = ⊎_elim
      (λ t. dead_none p a z part w f.rules t al.satisfies)
      (λ t.
      let b = and_parts (full p a) (not (lawful f.rules p)) t in
      let every = (decides_full p a part.present_word part.absent_word).0 b.0 in
      let e : z ≡ p = within_full p a part every z w in
      both_ways (lawful f.rules p) (not-true (lawful f.rules p) b.1) (lawful_from f.rules p (subst (AnswerSet f.rules) e al)))
      (or_cases (list_any (dead_rule p a) f.rules) (full p a && not (lawful f.rules p)) dead)

  pub book_laws : JudgeLaws (book_of f)
  book_laws = record {
    some = fits.some;
    few = fits.few;
    inside = λ z al. inside z f.count f.rules fits.rules al;
    sound = dead_sound;
    full_dead = λ p a part every dead al. dead_sound p a p part dead (within_itself p a part) al;
    full_allowed = λ p a part every alive.
        let g = or_parts (list_any (dead_rule p a) f.rules) (full p a && not (lawful f.rules p)) alive in
        ⊎_elim
        (λ n. absurd (both_ways (full p a) n ((decides_full p a part.present_word part.absent_word).1 every)))
        (λ n. lawful_yes f.rules p (not-false (lawful f.rules p) n))
        (and_cases (full p a) (not (lawful f.rules p)) g.1);
  }
