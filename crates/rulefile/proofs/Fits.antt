-- The limits of a file, as facts and as tests.
use Rattle.std.proofs.Common.{◌≡◌, ℕ, ◌^◌, ◌<◌, ◌≤◌, Bool, true, ltb, leb, List, [], ◌∷◌, length, Decides, refl}
use Rattle.std.specs.List.{list_all, AllByRecursion}
use Rattle.std.proofs.lemmas.Bool.Decides.{Decides-and, Decides-ltb, Decides-like}
use Rattle.std.proofs.ByRecursion.{Decides-by_and}
use Rattle.std.proofs.lemmas.Bool.{leb-true, le-leb}
use Rattle.sheets.specs.Sheets.{width}
use Rattle.sheets.specs.declared.literals.Literal.{Literal}
use Rattle.rulefile.specs.declared.constraints.Element.{Element}
use Rattle.rulefile.specs.Ranges.{most_of_kind}
use Rattle.rulefile.specs.Lists.{Listed, Heads, Rules, Clauses, Wishes, Acts, all_lists, Item, list_of}
use Rattle.rulefile.specs.Model.{ConstraintModel, RuleModel, FileModel}
use Rattle.rulefile.specs.Limits.{literals_below, constraint_below, rule_below, item_below, is_list_fit, is_fit}
use Rattle.rulefile.specs.Laws.{LiteralsBelow, ConstraintBelow, RuleBelow, ItemBelow, Fits}
use Rattle.rulefile.proofs.Lists.{items_below, few_items, fits_of}

decides_leb : (m n : ℕ) → Decides (leb m n) (m ≤ n)
decides_leb m n = (leb-true m n, le-leb m n)

decides_all : {A : Type 0} (p : A → Bool) (P : A → Type 0) → ((x : A) → Decides (p x) (P x)) → (xs : List A) → Decides (list_all p xs) (AllByRecursion P xs)
decides_all p P each xs = Decides-by_and p P (list_all p) each refl (λ _ _. refl) xs

literals : (n : ℕ) (ls : List Literal) → Decides (literals_below n ls) (LiteralsBelow n ls)
literals n ls = decides_all (λ (l : Literal). ltb l.mark n) (λ (l : Literal). l.mark < n) (λ l. Decides-ltb l.mark n) ls

constraint : (n : ℕ) (k : ConstraintModel) → Decides (constraint_below n k) (ConstraintBelow n k)
constraint n k = decides_all (λ (e : Element). ltb e.literal.mark n) (λ (e : Element). e.literal.mark < n) (λ e. Decides-ltb e.literal.mark n) k.elements

rule : (n : ℕ) (r : RuleModel) → Decides (rule_below n r) (RuleBelow n r)
rule n r = Decides-and _ _ (constraint n r.head) (decides_all (constraint_below n) (ConstraintBelow n) (constraint n) r.body)

item : (l : Listed) (n : ℕ) (x : Item l) → Decides (item_below l n x) (ItemBelow l n x)
item Heads n x = absurd x
item Rules n r = rule n r
item Clauses n k = literals n k
item Wishes n w = literals n w.literals
item Acts n a = (λ _. tt, λ _. refl)

-- the list keeps its limits
abbrev ListFits : FileModel → Listed → Type 0
ListFits f l = AllByRecursion (ItemBelow l f.count) (list_of l f) × (length (list_of l f) ≤ most_of_kind)

lists : (f : FileModel) → Decides (list_all (is_list_fit f) all_lists) (AllByRecursion (ListFits f) all_lists)
lists f = decides_all (is_list_fit f) (ListFits f) (λ l. Decides-and _ _ (decides_all (item_below l f.count) (ItemBelow l f.count) (item l f.count) (list_of l f)) (decides_leb (length (list_of l f)) most_of_kind)) all_lists

-- what holds of all lists holds of each
of_each : (P : Listed → Type 0) → AllByRecursion P all_lists → (l : Listed) → P l
of_each P h Heads = h.0
of_each P h Rules = h.1.0
of_each P h Clauses = h.1.1.0
of_each P h Wishes = h.1.1.1.0
of_each P h Acts = h.1.1.1.1.0

of_all : (P : Listed → Type 0) → ((l : Listed) → P l) → (ls : List Listed) → AllByRecursion P ls
of_all P h [] = tt
of_all P h (l ∷ ls) = (h l, of_all P h ls)

-- the test passes exactly where the limits are kept
pub decides_fit : (f : FileModel) → Decides (is_fit f) (Fits f)
unfolding is_fit
decides_fit f =
    let d = Decides-and _ _ (decides_leb 1 f.count) (Decides-and _ _ (decides_leb f.count width) (Decides-and _ _ (Decides-ltb f.house (2 ^ f.count)) (lists f))) in
    Decides-like _
    (λ h. fits_of f h.0 h.1.0 h.1.1.0 (λ l. (of_each (ListFits f) h.1.1.1 l).0) (λ l. (of_each (ListFits f) h.1.1.1 l).1))
    (λ h. (h.some, (h.few, (h.house, of_all (ListFits f) (λ l. (items_below f h l, few_items f h l)) all_lists))))
    d

pub fit_made : (f : FileModel) → Fits f → is_fit f ≡ true
fit_made f h = (decides_fit f).1 h

pub fit_parts : (f : FileModel) → is_fit f ≡ true → Fits f
fit_parts f t = (decides_fit f).0 t
