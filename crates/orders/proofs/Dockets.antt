-- The docket: one act more, and one less.
use Rattle.std.proofs.Common.{◌≡◌, ℕ, ◌≤◌, Bool, true, false, cond, List, [], ◌∷◌, ◌++◌, Some, None, Option, sym, refl, ap, ◌∙◌, arith}
use Rattle.std.proofs.lemmas.List.Folds.{list_all-append}
use Rattle.std.proofs.lemmas.Bool.{and_parts, and_from, leb-false, lt-ltb}
use Rattle.std.specs.List.{list_all}
use Rattle.std.specs.Option.{option_to_list}
use Rattle.sheets.specs.Sheets.{width}
use Rattle.orders.specs.declared.acts.Act.{Act}
use Rattle.orders.specs.declared.acts.Act.TheVariants.{Pin, Bar, Strike}
use Rattle.orders.specs.declared.acts.Refusal.{Refusal}
use Rattle.orders.specs.declared.acts.Refusal.TheVariants.{MarkRange, MarkTaken, SheetStruck, DocketFull}
use Rattle.orders.specs.Acts.{in_range}
use Rattle.orders.specs.Dockets.{beyond, applies, first_that, refused_act, unless, after_act, after_undo}

-- ---- acts that name only marks that there are

pub all_push : (acts : List Act) (a : Act) → list_all in_range acts ≡ true → in_range a ≡ true → list_all in_range (acts ++ (a ∷ [])) ≡ true
all_push acts a p q = list_all-append in_range acts (a ∷ []) ∙ and_from _ _ p (and_from _ _ q refl)

pub all_after_undo : (acts : List Act) → list_all in_range acts ≡ true → list_all in_range (after_undo acts) ≡ true
all_after_undo [] p = refl
all_after_undo (a ∷ []) p = refl
all_after_undo (a ∷ (b ∷ acts)) p =
    let r = and_parts (in_range a) (list_all in_range (b ∷ acts)) p in
    and_from (in_range a) (list_all in_range (after_undo (b ∷ acts))) r.0 (all_after_undo (b ∷ acts) r.1)

-- ---- an act that is not refused

none_that : (test : Refusal → Bool) (r : Refusal) (rest : List Refusal) → first_that test (r ∷ rest) ≡ None → (test r ≡ false) × (first_that test rest ≡ None)
none_that test r rest = go (test r)
  where
    go : (b : Bool) → cond b (Some r) (first_that test rest) ≡ None → (b ≡ false) × (first_that test rest ≡ None)
    go true e = cc
    go false e = (refl, e)

module _ (n : ℕ) (acts : List Act) where
  within_count : (a : Act) → refused_act n acts a ≡ None → beyond n a ≡ false
  within_count a e = (none_that (applies n acts a) MarkRange (MarkTaken ∷ SheetStruck ∷ DocketFull ∷ []) e).0

  pub accepted_range : (a : Act) → n ≤ width → refused_act n acts a ≡ None → in_range a ≡ true
  accepted_range (Pin m) few e = lt-ltb m width (omega (arith, leb-false n m (within_count (Pin m) e)))
  accepted_range (Bar m) few e = lt-ltb m width (omega (arith, leb-false n m (within_count (Bar m) e)))
  accepted_range (Strike z) few e = refl

  pub all_after_act : (a : Act) → n ≤ width → list_all in_range acts ≡ true → list_all in_range (after_act n acts a) ≡ true
  all_after_act a few low = go (refused_act n acts a) refl
    where
      go : (o : Option Refusal) → refused_act n acts a ≡ o → list_all in_range (unless o acts (acts ++ (a ∷ []))) ≡ true
      go (Some why) e = low
      go None e = all_push acts a low (accepted_range a few e)

-- ---- the last act taken off

undo_push : (acts : List Act) (a : Act) → after_undo (acts ++ (a ∷ [])) ≡ acts
undo_push [] a = refl
undo_push (x ∷ []) a = refl
undo_push (x ∷ (y ∷ acts)) a = ap (λ l. x ∷ l) (undo_push (y ∷ acts) a)

pub undo_pop : (old new : List Act) (last : Option Act) (a : Act) → old ≡ new ++ option_to_list last → last ≡ Some a → new ≡ after_undo old
undo_pop old new last a parts is = sym (ap after_undo (parts ∙ ap (λ o. new ++ option_to_list o) is) ∙ undo_push new a)
