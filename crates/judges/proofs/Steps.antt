-- A test of all of a list, as a loop makes it from the first element on.
use Rattle.std.proofs.Common.{◌≡◌, ℕ, ◌+◌, ◌<◌, ◌≤◌, Bool, true, false, ◌&&◌, List, map, length, get_or, drop, sym, ap, ◌∙◌}
use Rattle.std.proofs.lemmas.List.{at_drop_more, at_drop_all}
use Rattle.std.specs.List.{list_all}

-- x is what stands at i
module _ {X Y : Type 0} (p : Y → Bool) (f : X → Y) (xs ys : List X) (same : ys ≡ xs) (i : ℕ) (x : X) (lt : i < length ys) (is : x ≡ get_or ys i x) where
  all_parted : list_all p (map f (drop i xs)) ≡ (p (f x) && list_all p (map f (drop (i + 1) xs)))
  all_parted =
      ap (λ l. list_all p (map f (drop i l))) (sym same)
      ∙ at_drop_more (λ l. list_all p (map f l)) ys i x lt
      ∙ ap (λ y. p (f y) && list_all p (map f (drop (i + 1) ys))) (sym is)
      ∙ ap (λ l. p (f x) && list_all p (map f (drop (i + 1) l))) same

  pub all_hit : p (f x) ≡ true → list_all p (map f (drop (i + 1) xs)) ≡ list_all p (map f (drop i xs))
  all_hit t = sym (all_parted ∙ ap (λ b. b && list_all p (map f (drop (i + 1) xs))) t)

  pub all_miss : p (f x) ≡ false → list_all p (map f (drop i xs)) ≡ false
  all_miss t = all_parted ∙ ap (λ b. b && list_all p (map f (drop (i + 1) xs))) t

pub all_none : {X Y : Type 0} (p : Y → Bool) (f : X → Y) (xs ys : List X) (same : ys ≡ xs) (i : ℕ) → length ys ≤ i → list_all p (map f (drop i xs)) ≡ true
all_none p f xs ys same i le = ap (λ l. list_all p (map f (drop i l))) (sym same) ∙ at_drop_all (λ l. list_all p (map f l)) ys i le
