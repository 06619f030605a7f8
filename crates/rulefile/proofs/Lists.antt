-- The lists of a file: what a record adds to one list, and leaves of the others. What is shown here of a list l is shown of all.
use Rattle.std.proofs.Common.{◌≡◌, ℕ, ◌^◌, ◌<◌, ◌≤◌, true, false, cond, eqb, List, [], ◌∷◌, ◌++◌, map, length, refl, ap, ◌∙◌, arith}
use Rattle.std.specs.Prelude.{◌==◌}
use Rattle.std.specs.List.{list_any, AllByRecursion}
use Rattle.std.proofs.ByRecursion.{All-push}
use Rattle.std.proofs.lemmas.List.{length_push}
use Rattle.sheets.specs.Sheets.{width}
use Rattle.rulefile.specs.declared.records.Kind.{Kind}
use Rattle.rulefile.specs.declared.records.Kind.TheVariants.{Head, Rule, Clause, Wish, Act as ActKind, TaggedWish}
use Rattle.rulefile.specs.Ranges.{most_of_kind}
use Rattle.rulefile.specs.Numbers.{kind_number}
use Rattle.rulefile.specs.Model.{FileModel}
use Rattle.rulefile.specs.Lists.{Listed, Heads, Rules, Clauses, Wishes, Acts, list_for, Item, list_of, with_one}
use Rattle.rulefile.specs.Parser.{Parser, took, refuse, little}
use Rattle.rulefile.specs.declared.refusals.Refusal.TheVariants.{HeadMisplaced}
use Rattle.rulefile.specs.Format.{rule_fields, rule_body, clause_fields, clause_body, wish_fields, wish_body, act_fields, act_body, body_of, adding, later_body, head_alone}
use Rattle.rulefile.specs.Laws.{RecordBytes, of_kinds, ItemBelow, Fits}
use Rattle.rulefile.proofs.Sound.{wholly_ends, Gives, any, gives_rule, gives_clause, gives_wish}

-- ---- a row for each list

-- a number of each list
abbrev pub place : Listed → ℕ
place Heads = 0
place Rules = 1
place Clauses = 2
place Wishes = 3
place Acts = 4

-- the numbers of the kinds whose records are put to the list
abbrev pub numbers_of : Listed → List ℕ
numbers_of Heads = kind_number Head ∷ []
numbers_of Rules = kind_number Rule ∷ []
numbers_of Clauses = kind_number Clause ∷ []
numbers_of Wishes = kind_number Wish ∷ kind_number TaggedWish ∷ []
numbers_of Acts = kind_number ActKind ∷ []

-- how the body of a record that is put to the list is read, by the number of its kind
abbrev pub reads : (l : Listed) → ℕ → ℕ → Parser (Item l)
reads Heads count n = refuse HeadMisplaced
reads Rules count n = rule_body count
reads Clauses count n = clause_body count
reads Wishes count n = wish_body (n == kind_number TaggedWish) count
reads Acts count n = act_body count

-- What holds of the list l with one more behind it, and of the other lists as they were, holds of each list of the file with one
-- more record of a kind that is put to l.
pub each_list : (f : FileModel) (k : Kind) (x : Item (list_for k)) (P : (j : Listed) → List (Item j) → Type 0) → P (list_for k) (list_of (list_for k) f ++ x ∷ [])
    → ((j : Listed) → eqb (place (list_for k)) (place j) ≡ false → P j (list_of j f)) → (j : Listed) → P j (list_of j (with_one k f x))
each_list f Head x P here others j = absurd x
each_list f Rule x P here others Rules = here
each_list f Clause x P here others Clauses = here
each_list f Wish x P here others Wishes = here
each_list f TaggedWish x P here others Wishes = here
each_list f ActKind x P here others Acts = here
each_list f k x P here others j = others j refl

-- the number of a kind is among those of its list
among : (k : Kind) → list_any (λ n. kind_number k == n) (numbers_of (list_for k)) ≡ true
among Head = refl
among k = refl

-- and of no other
not_among : (k : Kind) (j : Listed) → eqb (place (list_for k)) (place j) ≡ false → list_any (λ n. kind_number k == n) (numbers_of j) ≡ false
not_among Head Heads e = absurd (cc)
not_among Rule Rules e = absurd (cc)
not_among Clause Clauses e = absurd (cc)
not_among Wish Wishes e = absurd (cc)
not_among TaggedWish Wishes e = absurd (cc)
not_among ActKind Acts e = absurd (cc)
not_among k j e = refl

-- a body is read by its kind as by its list and the number of its kind
pub reads_kind : (k : Kind) (count : ℕ) (bs : List ℕ) → reads (list_for k) count (kind_number k) bs ≡ body_of k count bs
reads_kind Head count bs = refl
reads_kind k count bs = refl

-- a body that is read is read to its end
pub body_ends : (k : Kind) (count : ℕ) (bs : List ℕ) (x : Item (list_for k)) (rest : List ℕ) → body_of k count bs ≡ took x rest → rest ≡ []
unfolding rule_body clause_body wish_body act_body
body_ends Head count bs x rest e = absurd x
body_ends Rule count bs x rest e = wholly_ends (rule_fields count) bs e
body_ends Clause count bs x rest e = wholly_ends (clause_fields count) bs e
body_ends Wish count bs x rest e = wholly_ends (wish_fields false count) bs e
body_ends ActKind count bs x rest e = wholly_ends (act_fields count) bs e
body_ends TaggedWish count bs x rest e = wholly_ends (wish_fields true count) bs e

-- and says what is kept of its list
pub gives_body : (k : Kind) (count : ℕ) (bs : List ℕ) → Gives (ItemBelow (list_for k) count) (body_of k count bs)
gives_body Head count bs = tt
gives_body Rule count bs = gives_rule count bs
gives_body Clause count bs = gives_clause count bs
gives_body Wish count bs = gives_wish false count bs
gives_body ActKind count bs = any (act_body count bs)
gives_body TaggedWish count bs = gives_wish true count bs

all_any : {A : Type 0} (xs : List A) → AllByRecursion (λ (x : A). Unit {0}) xs
all_any [] = tt
all_any (x ∷ xs) = (tt, all_any xs)

module _ (f : FileModel) (h : Fits f) where
  pub items_below : (l : Listed) → AllByRecursion (ItemBelow l f.count) (list_of l f)
  items_below Heads = tt
  items_below Rules = h.rules
  items_below Clauses = h.clauses
  items_below Wishes = h.wishes
  items_below Acts = all_any f.acts

  pub few_items : (l : Listed) → length (list_of l f) ≤ most_of_kind
  few_items Heads = omega arith
  few_items Rules = h.few_rules
  few_items Clauses = h.few_clauses
  few_items Wishes = h.few_wishes
  few_items Acts = h.few_acts

pub fits_of : (f : FileModel) → 1 ≤ f.count → f.count ≤ width → f.house < 2 ^ f.count → ((l : Listed) → AllByRecursion (ItemBelow l f.count) (list_of l f))
    → ((l : Listed) → length (list_of l f) ≤ most_of_kind) → Fits f
fits_of f some few house below room = record {
  some = some;
  few = few;
  house = house;
  rules = below Rules;
  clauses = below Clauses;
  wishes = below Wishes;
  few_rules = room Rules;
  few_clauses = room Clauses;
  few_wishes = room Wishes;
  few_acts = room Acts;
}

-- each list of a head alone is empty
pub none_yet : (l : Listed) (h : ℕ × ℕ) → list_of l (head_alone h) ≡ []
none_yet Heads h = refl
none_yet l h = refl

-- a later record of a kind whose list has items
pub later_item : (f : FileModel) (k : Kind) → Item (list_for k) → (bs : List ℕ) → later_body f k bs ≡ adding (length (list_of (list_for k) f)) (body_of k f.count) (with_one k f) bs
unfolding later_body
later_item f Head x bs = absurd x
later_item f k x bs = refl

-- ---- of any list

-- the limits are kept where one more of a kind keeps them
pub one_fits : (f : FileModel) (k : Kind) (x : Item (list_for k)) → Fits f → ItemBelow (list_for k) f.count x → length (list_of (list_for k) f) < most_of_kind → Fits (with_one k f x)
one_fits f k x h below room =
    fits_of (with_one k f x) h.some h.few h.house
    (each_list f k x (λ j xs. AllByRecursion (ItemBelow j f.count) xs) (All-push (ItemBelow (list_for k) f.count) (list_of (list_for k) f) x (items_below f h (list_for k)) below) (λ j _. items_below f h j))
    (each_list f k x (λ j xs. length xs ≤ most_of_kind) (omega (arith, length_push (list_of (list_for k) f) x, room)) (λ j _. few_items f h j))

-- behind xs, the records that are put to the list l say what this list of g has
abbrev pub Goes : (l : Listed) → ℕ → List (Item l) → List RecordBytes → FileModel → Type 0
Goes l count xs rs g = map (λ x. took x []) xs ++ map (λ r. reads l count (little r.kind) r.body) (of_kinds (numbers_of l) rs) ≡ map (λ x. took x []) (list_of l g)

-- a record of the kind k before others: it is the first of its list, and those of another list stay
module _ (r : RecordBytes) (rs : List RecordBytes) (k : Kind) (n : little r.kind ≡ kind_number k) where
  number_is : (ns : List ℕ) → of_kinds ns (r ∷ rs) ≡ cond (list_any (λ m. kind_number k == m) ns) (r ∷ of_kinds ns rs) (of_kinds ns rs)
  number_is ns = ap (λ i. cond (list_any (λ m. i == m) ns) (r ∷ of_kinds ns rs) (of_kinds ns rs)) n

  pub records_here : of_kinds (numbers_of (list_for k)) (r ∷ rs) ≡ r ∷ of_kinds (numbers_of (list_for k)) rs
  records_here = let ns = numbers_of (list_for k) in number_is ns ∙ ap (λ b. cond b (r ∷ of_kinds ns rs) (of_kinds ns rs)) (among k)

  pub records_other : (j : Listed) → eqb (place (list_for k)) (place j) ≡ false → of_kinds (numbers_of j) (r ∷ rs) ≡ of_kinds (numbers_of j) rs
  records_other j e = let ns = numbers_of j in number_is ns ∙ ap (λ b. cond b (r ∷ of_kinds ns rs) (of_kinds ns rs)) (not_among k j e)

  -- and it is read by its kind
  pub read_here : (count : ℕ) → reads (list_for k) count (little r.kind) r.body ≡ body_of k count r.body
  read_here count = ap (λ i. reads (list_for k) count i r.body) n ∙ reads_kind k count r.body
