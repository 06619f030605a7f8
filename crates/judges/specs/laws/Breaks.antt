-- Lemmas; no contract names what stands here. The first rule that does not hold.
use Rattle.std.specs.Prelude.{◌≡◌, ℕ, zero, suc, ◌+◌, ◌<◌, Bool, true, false, not, List, [], ◌∷◌, map, length, vec_items, slice_index_or, refl}
use Rattle.std.proofs.Common.{sym, ap, ◌∙◌, arith, below_more}
use Rattle.std.proofs.lemmas.List.{get_or-map}
use Rattle.std.proofs.lemmas.Bool.{and_from, and_parts, or_left, or_right, or_from}
use Rattle.rulefile.specs.declared.records.Rule.{Rule}
use Rattle.rulefile.specs.Model.{RuleModel, constraint_of, rule_of}
use Rattle.std.specs.List.{list_all}
use Rattle.judges.specs.Programs.{satisfied, rule_holds}
use Rattle.judges.specs.Verdicts.{FirstBroken}

pub all_from : {X : Type 0} (p : X → Bool) (xs : List X) → ((k : ℕ) → k < length xs → (d : X) → p (slice_index_or xs k d) ≡ true) → list_all p xs ≡ true
all_from p [] h = refl
all_from p (x ∷ xs) h = and_from (p x) (list_all p xs) (h 0 (omega arith) x) (all_from p xs (λ k lt d. h (suc k) (omega arith) d))

pub all_at : {X : Type 0} (p : X → Bool) (xs : List X) → list_all p xs ≡ true → (k : ℕ) → k < length xs → (d : X) → p (slice_index_or xs k d) ≡ true
all_at p [] h k lt d = absurd (omega arith)
all_at p (x ∷ xs) h zero lt d = (and_parts (p x) (list_all p xs) h).0
all_at p (x ∷ xs) h (suc k) lt d = all_at p xs (and_parts (p x) (list_all p xs) h).1 k (omega arith) d

-- the rules below n hold; d is what a list gives beyond its end, and as k is within, any will do
abbrev pub HeldBelow : ℕ → List RuleModel → ℕ → Type 0
HeldBelow z program n = (k : ℕ) → k < n → (d : RuleModel) → rule_holds z (slice_index_or program k d) ≡ true

module _ (z : ℕ) (rules : List Rule) (n : ℕ) (x : Rule) (lt : n < length rules) (is : x ≡ slice_index_or rules n x) where
  at_n : (d : RuleModel) → slice_index_or (map rule_of rules) n d ≡ rule_of x
  at_n d = get_or-map rule_of rules n x d lt ∙ ap rule_of (sym is)

  more : HeldBelow z (map rule_of rules) n → rule_holds z (rule_of x) ≡ true → HeldBelow z (map rule_of rules) (n + 1)
  more h t = below_more (λ k. (d : RuleModel) → rule_holds z (slice_index_or (map rule_of rules) k d) ≡ true) n h (λ d. ap (rule_holds z) (at_n d) ∙ t)

  pub more_by_head : HeldBelow z (map rule_of rules) n → satisfied z (constraint_of x.head) ≡ true → HeldBelow z (map rule_of rules) (n + 1)
  more_by_head h t = more h (or_left (satisfied z (constraint_of x.head)) (not (list_all (satisfied z) (map constraint_of (vec_items x.body)))) t)

  pub more_by_body : HeldBelow z (map rule_of rules) n → list_all (satisfied z) (map constraint_of (vec_items x.body)) ≡ false → HeldBelow z (map rule_of rules) (n + 1)
  more_by_body h f = more h (or_right (satisfied z (constraint_of x.head)) (not (list_all (satisfied z) (map constraint_of (vec_items x.body)))) (ap not f))

  pub breaks_here : length rules ≡ length (map rule_of rules) → HeldBelow z (map rule_of rules) n → satisfied z (constraint_of x.head) ≡ false
      → list_all (satisfied z) (map constraint_of (vec_items x.body)) ≡ true → FirstBroken (map rule_of rules) z n
  breaks_here len h f t = record {
    within = omega (arith, len);
    fails = λ d. ap (rule_holds z) (at_n d) ∙ or_from (satisfied z (constraint_of x.head)) (not (list_all (satisfied z) (map constraint_of (vec_items x.body)))) f (ap not t);
    before = h;
  }
