-- One step by its three cases, and steps one after another.
use Rattle.std.proofs.Common.{◌≡◌, ℕ, suc, ◌+◌, true, false, cond, Some, sym, refl, ap, ◌∙◌, subst, suc-add, zero-add}
use Rattle.std.proofs.lemmas.Bool.{both_ways, cond_both, cond-true, cond-false}
use Rattle.sheets.specs.Judging.{Judging}
use Rattle.sheets.specs.Scaling.{Scaling}
use Rattle.orders.specs.Search.{Search}
use Rattle.orders.specs.Searches.{present_at, dismissed, dismisses, full_at, stepped, Steps, none, more}

-- the next mark decided absent
abbrev pub deeper : Search → Search
deeper x = record { depth = x.depth + 1; present = x.present; held = x.held; finished = false }

module _ {C : Type 0} (j : Judging) (s : Scaling C) where
  pub stepped_dismissed : (x : Search) → dismisses j s x ≡ true → stepped j s x ≡ dismissed x.depth x.present x.held
  stepped_dismissed x t = cond-true _ _ _ t

  pub stepped_held : (x : Search) → dismisses j s x ≡ false → full_at j s x ≡ true → stepped j s x ≡ dismissed x.depth x.present (Some (present_at j.count x))
  stepped_held x f full = cond-false _ _ _ f ∙ cond-true _ _ _ full

  pub stepped_deeper : (x : Search) → dismisses j s x ≡ false → full_at j s x ≡ false → stepped j s x ≡ deeper x
  stepped_deeper x f open_place = cond-false _ _ _ f ∙ cond-false _ _ _ open_place

  -- what holds of each of the three
  pub step_cases : (x : Search) (P : Search → Type 0)
      → (dismisses j s x ≡ true → P (dismissed x.depth x.present x.held))
      → (dismisses j s x ≡ false → full_at j s x ≡ true → P (dismissed x.depth x.present (Some (present_at j.count x))))
      → (dismisses j s x ≡ false → full_at j s x ≡ false → P (deeper x))
      → P (stepped j s x)
  step_cases x P dismiss hold decide =
      cond_both (dismisses j s x) (dismissed x.depth x.present x.held)
      (cond (full_at j s x) (dismissed x.depth x.present (Some (present_at j.count x))) (deeper x)) P
      dismiss
      (λ f. cond_both (full_at j s x) (dismissed x.depth x.present (Some (present_at j.count x))) (deeper x) P (hold f) (decide f))

  -- ---- steps one after another

  pub steps_join : (x y z : Search) (m n : ℕ) → Steps j s x m y → Steps j s y n z → Steps j s x (m + n) z
  steps_join x y z m n none b = subst (λ i. Steps j s x i z) (sym (zero-add n)) b
  steps_join x y z m n (more {n = i} going rest) b =
      subst (λ a. Steps j s x a z) (sym (suc-add i n)) (more going (steps_join (stepped j s x) y z i n rest b))

  pub steps_one : (x y z : Search) (m : ℕ) → Steps j s x m y → y.finished ≡ false → z ≡ stepped j s y → Steps j s x (m + 1) z
  steps_one x y z m b going e = subst (λ (w : Search). Steps j s x (m + 1) w) (sym e) (steps_join x y (stepped j s y) m 1 b (more going none))

  -- ---- so many steps lead to one place, and a search ends once

  pub steps_same : (x y z : Search) (m : ℕ) → Steps j s x m y → Steps j s x m z → y ≡ z
  steps_same x y z m none none = refl
  steps_same x y z m (more {n = i} going rest) (more going' rest') = steps_same (stepped j s x) y z i rest rest'

  pub steps_once : (x y z : Search) (m n : ℕ) → Steps j s x m y → Steps j s x n z → y.finished ≡ true → z.finished ≡ true → m ≡ n
  steps_once x y z m n none none e f = refl
  steps_once x y z m n none (more going rest) e f = absurd (both_ways x.finished going e)
  steps_once x y z m n (more going rest) none e f = absurd (both_ways x.finished going f)
  steps_once x y z m n (more {n = i} going rest) (more {n = k} going' rest') e f = ap suc (steps_once (stepped j s x) y z i k rest rest' e f)
