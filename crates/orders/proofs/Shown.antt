-- What a search shows that has come from the start, also where it is only known that it has.
use Rattle.std.proofs.Common.{ℕ, ◌+◌, ◌^◌, ◌<◌, ◌≤◌, Some, None, Option, sym, refl, ◌∙◌, subst, subst₂, inl, inr, ⊎_elim, arith, pow_mono}
use Rattle.std.proofs.Math.Logic.{∥∥₁_elim, ∥∥₁_map}
use Rattle.std.proofs.Math.Bool.{Bool-set}
use Rattle.std.specs.Coded.{Unit-prop, le_prop}
use Rattle.std.proofs.lemmas.Bool.{cases_Bool}
use Rattle.sheets.specs.Sheets.{width, others}
use Rattle.sheets.specs.Judging.{Judging, JudgeLaws}
use Rattle.sheets.specs.Scaling.{Scaling, ScaleLaws}
use Rattle.sheets.specs.laws.Bits.{marks_below}
use Rattle.sheets.specs.laws.Parts.{sheet_part, sheet_full}
use Rattle.orders.specs.declared.calls.Progress.{Progress}
use Rattle.orders.specs.declared.layer.Acts.{Acts}
use Rattle.orders.specs.Models.{acts_of, held_to}
use Rattle.orders.specs.laws.Under.{under_laws}
use Rattle.orders.specs.Search.{Search}
use Rattle.orders.specs.Searches.{start, present_at, absent_at, Steps, Ended, priced}
use Rattle.orders.specs.Places.{DecidesFirst, LiesBefore, Before}
use Rattle.orders.specs.Best.{Best, CostsAtMost}
use Rattle.orders.specs.Calls.{Showing, AllowedShown, NotCheaper, ShowsCheapest, Reached}
use Rattle.orders.proofs.Dismissals.{Well, well_wide, Past}
use Rattle.orders.proofs.Decided.{decides_first, lies_precedes}
use Rattle.orders.proofs.Walks.{steps_join}
use Rattle.orders.proofs.Found.{BestIn, Sound, sound_reached, ended_best}
use Rattle.orders.proofs.Falls.{falls}

-- ---- what a sound search shows

module _ {C : Type 0} (j : Judging) (s : Scaling C) (jl : JudgeLaws j) (x : Search) (sound : Sound j s x) where
  pub held_allowed : AllowedShown j s (priced s x.held)
  held_allowed = go x.held sound.best
    where
      go : (h : Option ℕ) → BestIn j s (Past x) h → AllowedShown j s (priced s h)
      go None b = tt
      go (Some h) b = (b.0, refl)

  before_past : (z : ℕ) → Before x.finished (present_at j.count x) (absent_at j.count x) z → Past x z
  before_past z (inl ended) = inl ended
  before_past z (inr lies) = inr (lies_precedes j.count x jl.few (well_wide j.count x jl.few sound.well) z lies)

  pub held_none_cheaper : (z : ℕ) → j.allows z → Before x.finished (present_at j.count x) (absent_at j.count x) z → NotCheaper s (priced s x.held) z
  held_none_cheaper z al before = go x.held sound.best
    where
      go : (h : Option ℕ) → BestIn j s (Past x) h → NotCheaper s (priced s h) z
      go None b = b z al (before_past z before)
      go (Some h) b = b.2 z al (before_past z before)

-- ---- facts with one proof at most

⊥_prop : IsProp ⊥
⊥_prop x y = absurd x

module _ {C : Type 0} (s : Scaling C) where
  not_cheaper_prop : (h : Option (ℕ × C)) (z : ℕ) → IsProp (NotCheaper s h z)
  not_cheaper_prop None z = ⊥_prop
  not_cheaper_prop (Some h) z = Bool-set _ _

  at_most_prop : (a b : Option (ℕ × C)) → IsProp (CostsAtMost s a b)
  at_most_prop None None = Unit-prop
  at_most_prop None (Some b) = ⊥_prop
  at_most_prop (Some a) None = Unit-prop
  at_most_prop (Some a) (Some b) = Bool-set _ _

-- ---- of a judge it can be asked whether a sheet is allowed, so that what is known of one is had

module _ {C : Type 0} (j : Judging) (s : Scaling C) (jl : JudgeLaws j) where
  allowed_word : (z : ℕ) → j.allows z → z < 2 ^ width
  allowed_word z al =
      let small = marks_below j.count z (jl.inside z al) in
      let wide : 2 ^ j.count ≤ 2 ^ width = pow_mono {i = j.count} {j = width} jl.few in
      omega arith

  allowed_had : (z : ℕ) → ∥ j.allows z ∥₁ → j.allows z
  allowed_had z known =
      let word : z < 2 ^ width = ∥∥₁_elim known le_prop (allowed_word z) in
      let part = sheet_part z word in
      let every = sheet_full z word in
      jl.full_allowed z (others z) part every
      (∥∥₁_elim known (Bool-set _ _) (λ al. ⊎_elim (λ dead. absurd (jl.full_dead z (others z) part every dead al)) (λ f. f) (cases_Bool (j.dead z (others z)))))

  shown_had : (h : Option ℕ) → ∥ AllowedShown j s (priced s h) ∥₁ → AllowedShown j s (priced s h)
  shown_had None known = tt
  shown_had (Some h) known = (allowed_had h (∥∥₁_map known (λ k. k.0)), refl)

  pub best_had : IsSet C → (answer : Option (ℕ × C)) → ∥ Best j s answer ∥₁ → Best j s answer
  best_had costs None known = λ z al. ∥∥₁_elim known ⊥_prop (λ none. none z al)
  best_had costs (Some a) known = record {
    allowed = allowed_had a.0 (∥∥₁_map known (λ k. k.allowed));
    its_cost = ∥∥₁_elim known (costs _ _) (λ k. k.its_cost);
    least = λ y al. ∥∥₁_elim known (Bool-set _ _) (λ k. k.least y al);
    first = λ y al e. ∥∥₁_elim known (Bool-set _ _) (λ k. k.first y al e);
  }

-- ---- searches of which it is known that they have come from the start

module _ {C : Type 0} (j : Judging) (s : Scaling C) where
  pub reached_on : (x y : Search) (n : ℕ) → ∥ Reached j s x ∥₁ → Steps j s x n y → ∥ Reached j s y ∥₁
  reached_on x y n known rest = ∥∥₁_map known (λ r. (r.0 + n, steps_join j s start x y r.0 n r.1 rest))

  module _ (jl : JudgeLaws j) (sl : ScaleLaws s) where
    pub reached_best : IsSet C → (x y : Search) → ∥ Reached j s x ∥₁ → Ended j s x y → Best j s (priced s y.held)
    reached_best costs x y known ended = best_had j s jl costs (priced s y.held) (∥∥₁_map known (λ r. ended_best j s jl sl x y r.0 r.1 ended))

    pub reached_falls : (x y : Search) (n : ℕ) → ∥ Reached j s x ∥₁ → Steps j s x n y → CostsAtMost s (priced s y.held) (priced s x.held)
    reached_falls x y n known rest = ∥∥₁_elim known (at_most_prop s _ _) (λ r. falls j s jl sl x y r.0 n r.1 rest)

    -- as many marks are decided as the place says
    pub reached_place : (x : Search) → ∥ Reached j s x ∥₁ → DecidesFirst j.count x.depth (present_at j.count x) (absent_at j.count x)
    reached_place x known =
        let sound : ∥ Sound j s x ∥₁ = ∥∥₁_map known (λ r. sound_reached j s jl sl x r.0 r.1) in
        let well : Well j.count x = record { few = ∥∥₁_elim sound le_prop (λ so. so.well.few); low = ∥∥₁_elim sound le_prop (λ so. so.well.low) } in
        decides_first j.count x jl.few (well_wide j.count x jl.few well) well.few

    pub reached_shows : (x : Search) (p : Progress C) → ∥ Reached j s x ∥₁ → Showing j s x p → ShowsCheapest j s p
    reached_shows x p known shown =
        let sound : ∥ Sound j s x ∥₁ = ∥∥₁_map known (λ r. sound_reached j s jl sl x r.0 r.1) in
        record {
          allowed_held = subst (AllowedShown j s) (sym shown.held) (shown_had j s jl x.held (∥∥₁_map sound (held_allowed j s jl x)));
          none_cheaper = λ z al before.
              let here : Before x.finished (present_at j.count x) (absent_at j.count x) z =
              ⊎_elim (λ t. inl (sym shown.finished ∙ t)) (λ l. inr (subst₂ (λ present absent. LiesBefore present absent z) shown.present shown.absent l)) before in
              subst (λ h. NotCheaper s h z) (sym shown.held)
              (∥∥₁_elim sound (not_cheaper_prop s (priced s x.held) z) (λ so. held_none_cheaper j s jl x so z al here));
        }

-- the judge held to the acts keeps the laws
pub held_laws : {J : Type 0} (judging : J → Judging) → ((x : J) → JudgeLaws (judging x)) → (a : Acts J) → JudgeLaws (held_to judging a)
held_laws judging laws a = under_laws (judging a.judge) (acts_of a) a.docket.ranges (laws a.judge)
