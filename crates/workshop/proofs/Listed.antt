-- One mark after another is put into a sheet.
use Rattle.std.proofs.Common.{◌≡◌, ℕ, ◌+◌, ◌<◌, ◌≤◌, Bool, true, false, ◌&&◌, ◌||◌, ◌==◌, List, ◌∷◌, length, get_or, drop, nat_lt, refl, ap, sym, ◌∙◌}
use Rattle.std.specs.List.{list_all, list_any}
use Rattle.std.proofs.lemmas.List.{at_drop_more, at_drop_all}

-- a or b or c, with the parts in another order
or_moved : (a b c : Bool) → ((b || a) || c) ≡ (a || (b || c))
or_moved true true c = refl
or_moved true false c = refl
or_moved false true c = refl
or_moved false false c = refl

-- m is what stands at n
module _ (xs : List ℕ) (n m : ℕ) (lt : n < length xs) (is : m ≡ get_or xs n m) where
  parted : {R : Type 0} (f : List ℕ → R) → f (drop n xs) ≡ f (m ∷ drop (n + 1) xs)
  parted f = at_drop_more f xs n m lt ∙ ap (λ x. f (x ∷ drop (n + 1) xs)) (sym is)

  module _ (count : ℕ) where
    pub below_more : nat_lt m count ≡ true → list_all (λ k. nat_lt k count) (drop (n + 1) xs) ≡ list_all (λ k. nat_lt k count) (drop n xs)
    below_more t = sym (parted (list_all (λ k. nat_lt k count)) ∙ ap (λ b. b && list_all (λ k. nat_lt k count) (drop (n + 1) xs)) t)

    pub not_below : nat_lt m count ≡ false → list_all (λ k. nat_lt k count) (drop n xs) ≡ false
    not_below t = parted (list_all (λ k. nat_lt k count)) ∙ ap (λ b. b && list_all (λ k. nat_lt k count) (drop (n + 1) xs)) t

  -- where a sheet has mark i or not, by b, it is then the same with m
  pub one_more : (i : ℕ) (b : Bool) → (((i == m) || b) || list_any (λ k. i == k) (drop (n + 1) xs)) ≡ (b || list_any (λ k. i == k) (drop n xs))
  one_more i b = or_moved b (i == m) (list_any (λ k. i == k) (drop (n + 1) xs)) ∙ sym (ap (λ r. b || r) (parted (list_any (λ k. i == k))))

pub none_left_below : (count : ℕ) (xs : List ℕ) (n : ℕ) → length xs ≤ n → list_all (λ k. nat_lt k count) (drop n xs) ≡ true
none_left_below count xs n le = at_drop_all (list_all (λ k. nat_lt k count)) xs n le

pub none_left : (i : ℕ) (b : Bool) (xs : List ℕ) (n : ℕ) → length xs ≤ n → (b || list_any (λ k. i == k) (drop n xs)) ≡ b
none_left i b xs n le = ap (λ r. b || r) (at_drop_all (list_any (λ k. i == k)) xs n le) ∙ or_false b
  where
    or_false : (c : Bool) → (c || false) ≡ c
    or_false true = refl
    or_false false = refl
