-- How many places a search has still to come to: it goes forward with each step, and so ends.
use Rattle.std.proofs.Common.{◌≡◌, ℕ, zero, suc, ◌+◌, ◌-◌, ◌*◌, ◌^◌, ◌<◌, ◌≤◌, Bool, true, false, cond, not, Some, Option, sym, refl, ap, ◌∙◌, subst, ap₂, ⊎_elim, add-one, arith, pow_mono}
use native.Mathlib.Nat.{pow-succ'}
use Rattle.std.proofs.lemmas.Nat.{pow_pos}
use Rattle.std.proofs.lemmas.Bool.{cases_Bool, cond_both, cond-true, cond-false}
use Rattle.sheets.specs.Sheets.{width, has}
use Rattle.sheets.specs.Judging.{Judging}
use Rattle.sheets.specs.Scaling.{Scaling}
use Rattle.sheets.specs.laws.Bits.{has_plus_at}
use Rattle.orders.specs.Search.{Search}
use Rattle.orders.specs.Searches.{start, present_at, dismissed, stepped, Steps, none, more}
use Rattle.orders.proofs.Powers.{has_plus, has_minus}
use Rattle.orders.proofs.Dismissals.{Well, well_wide, turned, dismissed_well}
use Rattle.orders.proofs.Decided.{full_open}
use Rattle.orders.proofs.Walks.{deeper, step_cases}

-- the places that decide what one place decides and up to d marks more, itself among them
pub size : ℕ → ℕ
size d = 2 ^ suc d - 1

size_pos : (d : ℕ) → 0 < size d
unfolding size
size_pos d = omega (arith, pow-succ' 2 d, pow_pos d)

size_suc : (d : ℕ) → size (suc d) ≡ 1 + 2 * size d
unfolding size
size_suc d = omega (arith, pow-succ' 2 (suc d), pow-succ' 2 d, pow_pos d)

-- of n marks, the places after the one that decides k marks and after all that decide more with it
pub after : ℕ → ℕ → ℕ → ℕ
after n zero z = 0
after n (suc k) z = cond (has z k) (after n k z) (after n k z + size (n - suc k))

-- the places from that of the search on
pub left : ℕ → Search → ℕ
left n x = cond x.finished 0 (after n x.depth x.present + size (n - x.depth))

after_same : (n k y z : ℕ) → ((i : ℕ) → i < k → has y i ≡ has z i) → after n k y ≡ after n k z
unfolding after
after_same n zero y z h = refl
after_same n (suc k) y z h =
    let r = after_same n k y z (λ i lt. h i (omega arith)) in
    ap₂ (λ (b : Bool) (a : ℕ). cond b a (a + size (n - suc k))) (h k (omega arith)) r

after_present : (n k z : ℕ) → has z k ≡ true → after n (suc k) z ≡ after n k z
unfolding after
after_present n k z e = cond-true (has z k) (after n k z) (after n k z + size (n - suc k)) e

after_absent : (n k z : ℕ) → has z k ≡ false → after n (suc k) z ≡ after n k z + size (n - suc k)
unfolding after
after_absent n k z e = cond-false (has z k) (after n k z) (after n k z + size (n - suc k)) e

after_bound : (n k z : ℕ) → after n (suc k) z ≤ after n k z + size (n - suc k)
unfolding after
after_bound n k z =
    cond_both (has z k) (after n k z) (after n k z + size (n - suc k)) (λ a. a ≤ after n k z + size (n - suc k)) (λ e. omega arith) (λ e. omega arith)

left_dismissed : (n k z : ℕ) (held : Option ℕ) → left n (dismissed k z held) ≡ after n k z
unfolding left after
left_dismissed n zero z held = refl
left_dismissed n (suc k) z held =
    cond_both (has z k) (dismissed k (z - 2 ^ k) held) (turned k z held) (λ y. left n y ≡ after n (suc k) z)
    (λ e. left_dismissed n k (z - 2 ^ k) held ∙ after_same n k (z - 2 ^ k) z (λ i lt. has_minus k z i e lt) ∙ sym (after_present n k z e))
    (λ e. ap (λ a. a + size (n - suc k)) (after_present n k (z + 2 ^ k) (has_plus_at k z ∙ ap not e) ∙ after_same n k (z + 2 ^ k) z (λ i lt. has_plus k z i lt)) ∙ sym (after_absent n k z e))

module _ (n : ℕ) (x : Search) (going : x.finished ≡ false) where
  left_going : left n x ≡ after n x.depth x.present + size (n - x.depth)
  unfolding left
  left_going = cond-false x.finished 0 (after n x.depth x.present + size (n - x.depth)) going

  -- dismissing goes forward
  dismissed_less : (held : Option ℕ) → left n (dismissed x.depth x.present held) < left n x
  dismissed_less held = omega (arith, left_going, left_dismissed n x.depth x.present held, size_pos (n - x.depth))

  -- and so does one decision more
  deeper_less : x.depth < n → left n (deeper x) < left n x
  unfolding left
  deeper_less lt =
      let k = x.depth in
      let z = x.present in
      let s : n - k ≡ suc (n - suc k) = omega arith in
      let big : size (n - k) ≡ 1 + 2 * size (n - suc k) = ap size s ∙ size_suc (n - suc k) in
      let next : after n (k + 1) z ≤ after n k z + size (n - suc k) = rw add-one (after_bound n k z) in
      let same : size (n - (k + 1)) ≡ size (n - suc k) = ap (λ m. size (n - m)) (add-one k) in
      omega (arith, left_going, big, next, same)

module _ {C : Type 0} (j : Judging) (s : Scaling C) (wide : j.count ≤ width) where
  step_well : (x : Search) → Well width x → Well width (stepped j s x)
  step_well x well = step_cases j s x (Well width)
      (λ t. dismissed_wide x.held)
      (λ f full. dismissed_wide (Some (present_at j.count x)))
      (λ f open_place.
      let more_words : 2 ^ x.depth ≤ 2 ^ (x.depth + 1) = pow_mono {i = x.depth} {j = x.depth + 1} (omega arith) in
      record { few = omega (arith, full_open j.count x wide well open_place); low = omega (arith, well.low) })
    where
      dismissed_wide : (held : Option ℕ) → Well width (dismissed x.depth x.present held)
      dismissed_wide held = well_wide x.depth (dismissed x.depth x.present held) well.few (dismissed_well x.depth x.present held well.low)

  pub steps_well : (x y : Search) (m : ℕ) → Steps j s x m y → Well width x → Well width y
  steps_well x y m none well = well
  steps_well x y m (more {n = i} going rest) well = steps_well (stepped j s x) y i rest (step_well x well)

  module _ (n : ℕ) (few : j.count ≤ n) where
    step_less : (x : Search) → Well width x → x.finished ≡ false → left n (stepped j s x) < left n x
    step_less x well going = step_cases j s x (λ y. left n y < left n x)
        (λ t. dismissed_less n x going x.held)
        (λ f full. dismissed_less n x going (Some (present_at j.count x)))
        (λ f open_place. deeper_less n x going (omega (arith, full_open j.count x wide well open_place)))

    pub next_less : (x z : Search) → Well width x → x.finished ≡ false → z ≡ stepped j s x → left n z < left n x
    next_less x z well going e = subst (λ (y : Search). left n y < left n x) (sym e) (step_less x well going)

    pub steps_less : (x y : Search) (m : ℕ) → Well width x → Steps j s x m y → m ≤ left n x
    steps_less x y m well none = omega arith
    steps_less x y m well (more {n = i} going rest) =
        let fewer = steps_less (stepped j s x) y i (step_well x well) rest in
        omega (arith, step_less x well going)

    -- the steps that remain lead to an end
    pub steps_end : (x : Search) → Well width x → (k : ℕ) × (y : Search) × Steps j s x k y × (y.finished ≡ true)
    steps_end x well = go (left n x) x well (omega arith)
      where
        go : (most : ℕ) (x : Search) → Well width x → left n x ≤ most → (k : ℕ) × (y : Search) × Steps j s x k y × (y.finished ≡ true)
        go zero x well le = ⊎_elim
            (λ ended. (0, x, none, ended))
            (λ going. absurd (omega (arith, step_less x well going)))
            (cases_Bool x.finished)
        go (suc most) x well le = ⊎_elim
            (λ ended. (0, x, none, ended))
            (λ going.
            let rest = go most (stepped j s x) (step_well x well) (omega (arith, step_less x well going)) in
            (suc rest.0, rest.1, more going rest.2, rest.3))
            (cases_Bool x.finished)

pub start_well : Well width start
start_well = record { few = omega arith; low = omega arith }

-- no search takes more steps than there are places
pub steps_bound : {C : Type 0} (j : Judging) (s : Scaling C) (wide : j.count ≤ width) (x : Search) (m : ℕ) → Steps j s start m x → m ≤ 2 ^ suc j.count - 1
unfolding left after size
steps_bound j s wide x m steps =
    let e : j.count - 0 ≡ j.count = omega arith in
    let fewer : m ≤ 0 + (2 ^ suc j.count - 1) = subst (λ (d : ℕ). m ≤ 0 + (2 ^ suc d - 1)) e (steps_less j s wide j.count (omega arith) start x m start_well steps) in
    omega arith
