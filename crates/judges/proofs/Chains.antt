-- What chains of iterators over parts of a file make, in the words of the model.
use Rattle.std.proofs.Common.{◌≡◌, ◌+◌, Bool, cond, List, [], ◌∷◌, map, sum_by, refl, ap, ◌∙◌}
use Rattle.std.specs.List.{list_any, list_all}
use Rattle.std.proofs.lemmas.List.Folds.{list_all-map}
use Rattle.std.proofs.lemmas.List.Sums.{sum_by-cons}
use Rattle.sheets.specs.declared.literals.Literal.{Literal}
use Rattle.rulefile.specs.declared.constraints.Element.{Element}
use Rattle.judges.specs.Programs.{weigh}

module _ {X Y : Type 0} (p : Y → Bool) (f : X → Y) where
  pub all_mapped : (xs : List X) (r : Bool) → r ≡ list_all (λ x. p (f x)) xs → r ≡ list_all p (map f xs)
  all_mapped xs r e = rw (list_all-map p f xs) e

  any_of_map : (xs : List X) → list_any (λ x. p (f x)) xs ≡ list_any p (map f xs)
  any_of_map [] = refl
  any_of_map (x ∷ xs) = rw (any_of_map xs) refl

  pub any_mapped : (xs : List X) (r : Bool) → r ≡ list_any (λ x. p (f x)) xs → r ≡ list_any p (map f xs)
  any_mapped xs r e = e ∙ any_of_map xs

-- the weights of the elements that are picked, added up
module _ (p : Literal → Bool) where
  pub weigh_summed : (es : List Element) → sum_by (λ (e : Element). cond (p e.literal) e.weight 0) es ≡ weigh p es
  weigh_summed [] = refl
  weigh_summed (e ∷ es) = sum_by-cons (λ (e : Element). cond (p e.literal) e.weight 0) e es ∙ ap (λ n. cond (p e.literal) e.weight 0 + n) (weigh_summed es)
