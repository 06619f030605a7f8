-- Tests over a list.
use Rattle.std.proofs.Common.{◌≡◌, Bool, true, List, [], ◌∷◌, ⊎_elim}
use Rattle.std.specs.List.{list_any, list_all}
use Rattle.std.proofs.lemmas.Bool.{and_from, and_parts, or_cases, or_left, or_right}

-- g passes what f passes
module _ {X : Type 0} (f g : X → Bool) (wider : (x : X) → f x ≡ true → g x ≡ true) where
  pub any_wider : (xs : List X) → list_any f xs ≡ true → list_any g xs ≡ true
  any_wider [] t = t
  any_wider (x ∷ xs) t = ⊎_elim
      (λ e. or_left (g x) (list_any g xs) (wider x e))
      (λ e. or_right (g x) (list_any g xs) (any_wider xs e))
      (or_cases (f x) (list_any f xs) t)

  pub all_wider : (xs : List X) → list_all f xs ≡ true → list_all g xs ≡ true
  all_wider [] t = t
  all_wider (x ∷ xs) t = let b = and_parts (f x) (list_all f xs) t in and_from (g x) (list_all g xs) (wider x b.0) (all_wider xs b.1)
