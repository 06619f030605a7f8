-- Total orders, of elements of any kind, by a test that says which of two is below the other.
use Rattle.std.specs.Prelude.{◌≡◌, Bool, true, false, not, ◌&&◌, ◌||◌, ◌⊎◌}

-- the test is a total order of the elements
pub record OrderLaws {C : Type 0} (below : C → C → Bool) : Type 0 where
  -- of two one is below the other, or they are the same
  pub some : (a b : C) → (below a b ≡ true) ⊎ ((a ≡ b) ⊎ (below b a ≡ true))
  -- nothing is below itself
  pub irreflexive : (a : C) → below a a ≡ false
  -- of two not both are below the other
  pub asymmetric : (a b : C) → below a b ≡ true → below b a ≡ false
  -- what is below something below c is below c
  pub transitive : (a b c : C) → below a b ≡ true → below b c ≡ true → below a c ≡ true

-- x is below y, or neither is below the other and the rest decides, which is what is compared after them
abbrev pub first_decides : {C : Type 0} → (C → C → Bool) → C → C → Bool → Bool
first_decides below x y rest = below x y || (not (below y x) && rest)
