-- Lemmas; no contract names what stands here. Costs compared from the top level down.
use Rattle.std.specs.Prelude.{◌≡◌, ℕ, zero, suc, ◌-◌, ◌<◌, ◌≤◌, Bool, true, false, ◌⊎◌, List, [], ◌∷◌, get_or, ℤ, pos, ◌≤ℤ◌, ◌<ℤ◌, Some, int_lt, slice_index_or, refl}
use Rattle.std.specs.declared.cmp.Ordering.TheVariants.{Less, Equal, Greater}
use Rattle.std.specs.declared.cmp.Ordering.{Ordering}
use Rattle.std.proofs.Common.{sym, ap, ap₂, subst, ◌∙◌, inl, inr, ⊎_elim, arith}
use Rattle.std.specs.Ordering.{MatchOrdering, is_lt, is_some_and, int_cmp}
use Rattle.std.specs.Cmp.Lexicographic.{slice_partial_cmp}
use Rattle.std.proofs.lemmas.Cmp.{same_from_slice_cmp_tested, int_ranked}
use Rattle.std.proofs.lemmas.Int.{ints, by_lt_z}
use Rattle.std.proofs.lemmas.Bool.{both_ways, cases_eq}
use Rattle.total_order.specs.Orders.{OrderLaws}
use Rattle.total_order.specs.laws.Orders.{order_from, by_first, by_rest, by_above, by_neither, ways, decides_some, decides_transitive}
use Rattle.scales.specs.Wishes.{down_from, first_less}

-- ---- signed numbers

pub lt_int_lt : (a b : ℤ) → a <ℤ b → int_lt a b ≡ true
lt_int_lt a b h = grind (arith, ints)

pub le_int_lt : (a b : ℤ) → b ≤ℤ a → int_lt a b ≡ false
le_int_lt a b h = grind (arith, ints)

pub int_lt_true : (a b : ℤ) → int_lt a b ≡ true → a <ℤ b
int_lt_true a b h = grind (arith, ints)

signed_some : (a b : ℤ) → (int_lt a b ≡ true) ⊎ ((a ≡ b) ⊎ (int_lt b a ≡ true))
signed_some a b = by_lt_z a b (λ l. inl (lt_int_lt a b l)) (λ g. by_lt_z b a (λ l. inr (inr (lt_int_lt b a l))) (λ h. inr (inl (omega (arith, ints)))))

signed_transitive : (a b c : ℤ) → int_lt a b ≡ true → int_lt b c ≡ true → int_lt a c ≡ true
signed_transitive a b c t u = let p = int_lt_true a b t in let q = int_lt_true b c u in lt_int_lt a c (omega (arith, ints))

signed_order : OrderLaws int_lt
signed_order = order_from int_lt signed_some (λ a. le_int_lt a a (omega (arith, ints))) signed_transitive

-- ---- lists of them

less_some : (a b : List ℤ) → (first_less a b ≡ true) ⊎ ((a ≡ b) ⊎ (first_less b a ≡ true))
less_some [] [] = inr (inl refl)
less_some [] (y ∷ ys) = inl refl
less_some (x ∷ xs) [] = inr (inr refl)
less_some (x ∷ xs) (y ∷ ys) = ⊎_elim inl (⊎_elim (λ e. inr (inl (ap₂ (λ h t. h ∷ t) e.0 e.1))) (λ t. inr (inr t)))
    (decides_some int_lt signed_order x y (first_less xs ys) (first_less ys xs) (less_some xs ys))

less_itself : (a : List ℤ) → first_less a a ≡ false
less_itself [] = refl
less_itself (x ∷ xs) = by_rest int_lt signed_order x x (first_less xs xs) refl ∙ less_itself xs

less_transitive : (a b c : List ℤ) → first_less a b ≡ true → first_less b c ≡ true → first_less a c ≡ true
less_transitive [] [] c t u = absurd (both_ways false refl t)
less_transitive [] (y ∷ ys) [] t u = u
less_transitive [] (y ∷ ys) (z ∷ zs) t u = refl
less_transitive (x ∷ xs) [] c t u = absurd (both_ways false refl t)
less_transitive (x ∷ xs) (y ∷ ys) [] t u = u
less_transitive (x ∷ xs) (y ∷ ys) (z ∷ zs) t u =
    decides_transitive int_lt signed_order x y z (first_less xs ys) (first_less ys zs) (first_less xs zs) (less_transitive xs ys zs) t u

pub less_order : OrderLaws first_less
less_order = order_from first_less less_some less_itself less_transitive

-- not both below and above
pub less_turned : (a b : List ℤ) → first_less a b ≡ true → first_less b a ≡ false
less_turned = less_order.asymmetric

-- ---- from a level down to 1

pub down_above : (n : ℕ) (g h : ℕ → ℤ) → ((m : ℕ) → g m ≤ℤ h m) → first_less (down_from n h) (down_from n g) ≡ false
down_above zero g h le = refl
down_above (suc n) g h le =
    by_neither int_lt signed_order (h (suc n)) (g (suc n)) (first_less (down_from n h) (down_from n g)) (le_int_lt (h (suc n)) (g (suc n)) (le (suc n))) (down_above n g h le)

pub down_same : (n : ℕ) (g h : ℕ → ℤ) → ((m : ℕ) → g m ≡ h m) → down_from n g ≡ down_from n h
down_same zero g h e = refl
down_same (suc n) g h e = ap₂ (λ x xs. x ∷ xs) (e (suc n)) (down_same n g h e)

pub down_at : (n m : ℕ) (g : ℕ → ℤ) → 1 ≤ m → m ≤ n → slice_index_or (down_from n g) (n - m) (pos 0) ≡ g m
down_at zero m g low high = absurd (omega arith)
down_at (suc n) m g low high = ⊎_elim
    (λ e. let d : suc n - m ≡ 0 = omega arith in ap (λ i. get_or (down_from (suc n) g) i (pos 0)) d ∙ ap g (sym e))
    (λ ne. let d : suc n - m ≡ suc (n - m) = omega arith in ap (λ i. get_or (down_from (suc n) g) i (pos 0)) d ∙ down_at n m g low (omega arith))
    (cases_eq m (suc n))

-- ---- the greatest level at which two costs differ

-- g and h are what two sheets cost at each level
module _ (g h : ℕ → ℤ) where
  -- at this level g is less, and at every greater one they are equal
  pub record Decided : Type 0 where
    pub level : ℕ
    pub less : g level <ℤ h level
    pub same : (m : ℕ) → level < m → g m ≡ h m

  -- there is such a level where the list of g from level n down is less, and they do not differ above n
  pub decided : (n : ℕ) → ((m : ℕ) → n < m → g m ≡ h m) → first_less (down_from n g) (down_from n h) ≡ true → Decided
  decided zero above t = absurd (both_ways false refl t)
  decided (suc n) above t = ⊎_elim
      (λ l. record { level = suc n; less = int_lt_true (g (suc n)) (h (suc n)) l; same = above })
      (λ e. decided n (λ m lt. ⊎_elim (λ q. subst (λ (k : ℕ). g k ≡ h k) (sym q) e.0) (λ ne. above m (omega arith)) (cases_eq m (suc n))) e.1)
      (ways int_lt signed_order (g (suc n)) (h (suc n)) (first_less (down_from n g) (down_from n h)) t)

  -- and where such a level is one of 1 to n, that list is less
  pub decided_less : (n : ℕ) (d : Decided) → 1 ≤ d.level → d.level ≤ n → first_less (down_from n g) (down_from n h) ≡ true
  decided_less zero d low high = absurd (omega arith)
  decided_less (suc n) d low high = ⊎_elim
      (λ e. by_first int_lt signed_order (g (suc n)) (h (suc n)) (first_less (down_from n g) (down_from n h))
      (lt_int_lt (g (suc n)) (h (suc n)) (subst (λ (k : ℕ). g k <ℤ h k) e d.less)))
      (λ ne. by_rest int_lt signed_order (g (suc n)) (h (suc n)) (first_less (down_from n g) (down_from n h)) (d.same (suc n) (omega arith))
      ∙ decided_less n d low (omega arith))
      (cases_eq d.level (suc n))

-- ---- `<` on arrays

pub less_tested : (a b : List ℤ) (r : Bool) → r ≡ is_some_and is_lt (slice_partial_cmp (λ x y. Some (int_cmp x y)) a b) → r ≡ first_less a b
less_tested = same_from_slice_cmp_tested int_cmp is_lt first_less refl (λ _ _. refl) (λ _ _. refl) (λ x y xs ys o e. more x y xs ys o (int_ranked x y o e))
  where
    more : (x y : ℤ) (xs ys : List ℤ) (o : Ordering) → MatchOrdering o (x <ℤ y) (x ≡ y) (y <ℤ x)
        → MatchOrdering o (first_less (x ∷ xs) (y ∷ ys) ≡ true) (first_less (x ∷ xs) (y ∷ ys) ≡ first_less xs ys) (first_less (x ∷ xs) (y ∷ ys) ≡ false)
    more x y xs ys Less l = by_first int_lt signed_order x y (first_less xs ys) (lt_int_lt x y l)
    more x y xs ys Equal e = by_rest int_lt signed_order x y (first_less xs ys) e
    more x y xs ys Greater l = by_above int_lt signed_order x y (first_less xs ys) (lt_int_lt y x l)
