-- A search goes through the sheets in their order.
use Rattle.std.proofs.Common.{◌≡◌, ℕ, ◌<◌, true, false, ◌⊎◌, Some, None, Option, sym, refl, ap, ◌∙◌, subst, inl, inr, ⊎_elim, arith}
use Rattle.std.proofs.lemmas.Bool.{both_ways, cases_lt, cases_Bool, or_cases}
use Rattle.sheets.specs.Sheets.{width, has, MarksBelow, Within, Earlier}
use Rattle.sheets.specs.Judging.{Judging, JudgeLaws}
use Rattle.sheets.specs.Scaling.{Scaling, ScaleLaws}
use Rattle.orders.specs.Search.{Search}
use Rattle.orders.specs.Searches.{start, present_at, absent_at, floor_not_below, dead_at, floor_not_below_at, dismisses, full_at, stepped}
use Rattle.orders.specs.Theorems.{SearchEnds, BeforeAt, Passed, SearchInOrder}
use Rattle.orders.proofs.Dismissals.{Well, well_wide, Agrees, Precedes, Past, dismissed_held, past_from}
use Rattle.orders.proofs.Decided.{place_within, present_same, full_all, precedes_lies, lies_precedes}
use Rattle.orders.proofs.Walks.{stepped_dismissed, stepped_held, stepped_deeper, steps_same, steps_once}
use Rattle.orders.proofs.Remaining.{steps_bound, steps_end, steps_well, start_well}
use Rattle.orders.proofs.Found.{Sound, sound_step, sound_reached, dead_barren, within_no_cheaper, only_sheet, past_deeper}
use Rattle.orders.proofs.Falls.{past_step}

pub search_ends : {C : Type 0} (j : Judging) (s : Scaling C) → JudgeLaws j → SearchEnds j s
search_ends j s jl = record {
  few = λ m x. steps_bound j s jl.few x m;
  ends = λ m x steps. steps_end j s jl.few j.count (omega arith) x (steps_well j s jl.few start x m steps start_well);
  one = λ m x y. steps_same j s start x y m;
  once = λ m n x y. steps_once j s start x y m n;
}

-- with a sheet, each earlier one precedes a place
precedes_earlier : (k p y z : ℕ) → Precedes k p z → Earlier y z → Precedes k p y
precedes_earlier k p y z l e = ⊎_elim
    (λ lt. record {
      mark = e.mark;
      decided = omega (arith, l.decided);
      lacks = e.lacks;
      there = sym (l.agree e.mark lt) ∙ e.other;
      agree = λ i lo. e.agree i lo ∙ l.agree i (omega arith);
    })
    (λ from. ⊎_elim
    (λ (gt : l.mark < e.mark). record {
      mark = l.mark;
      decided = l.decided;
      lacks = e.agree l.mark gt ∙ l.lacks;
      there = l.there;
      agree = λ i lo. e.agree i (omega arith) ∙ l.agree i lo;
    })
    (λ le. let q : e.mark ≡ l.mark = omega arith in absurd (both_ways (has z l.mark) l.lacks (ap (has z) (sym q) ∙ e.other)))
    (cases_lt l.mark e.mark))
    (cases_lt e.mark l.mark)

module _ {C : Type 0} (j : Judging) (s : Scaling C) (jl : JudgeLaws j) (sl : ScaleLaws s) where
  past_at : (x : Search) → Well j.count x → (z : ℕ) → BeforeAt j s x z → Past x z
  past_at x well z (inl ended) = inl ended
  past_at x well z (inr l) = inr (lies_precedes j.count x jl.few (well_wide j.count x jl.few well) z l)

  at_past : (x : Search) → Well j.count x → (z : ℕ) → Past x z → BeforeAt j s x z
  at_past x well z (inl ended) = inl ended
  at_past x well z (inr l) = inr (precedes_lies j.count x jl.few (well_wide j.count x jl.few well) z l)

  module _ (x : Search) (going : x.finished ≡ false) (sound : Sound j s x) (z : ℕ) (below : MarksBelow j.count z) where
    wide : Well width x
    wide = well_wide j.count x jl.few sound.well

    here : Agrees x.depth x.present z → Within (present_at j.count x) (absent_at j.count x) z
    here = place_within j.count x jl.few wide z below

    floor_way : (held : Option ℕ) → floor_not_below s held (s.floor (present_at j.count x) (absent_at j.count x)) ≡ true → Agrees x.depth x.present z
        → (h : ℕ) × (held ≡ Some h) × (s.below (s.cost z) (s.cost h) ≡ false)
    floor_way None dear a = absurd (both_ways false refl dear)
    floor_way (Some h) dear a = (h, refl, within_no_cheaper j s jl sl x sound.well h z dear (here a))

    dismissed_passes : dismisses j s x ≡ true → Agrees x.depth x.present z → Passed j s x z
    dismissed_passes t a = record {
      within = here a;
      why = ⊎_elim
          (λ dead. inl (λ al. dead_barren j s jl sl x sound.well dead z al a))
          (λ dear. inr (inl (floor_way x.held dear a)))
          (or_cases (dead_at j s x) (floor_not_below_at j s x) t);
    }

    held_passes : dismisses j s x ≡ false → full_at j s x ≡ true → Agrees x.depth x.present z → Passed j s x z
    held_passes f full a = record {
      within = here a;
      why = inr (inr (
          ap (λ y. y.held) (stepped_held j s x f full)
          ∙ dismissed_held x.depth x.present (Some (present_at j.count x))
          ∙ ap Some (present_same j.count x jl.few wide ∙ sym (only_sheet j s jl sl x sound.well (full_all j.count x jl.few wide full) z below a))));
    }

    step_passes : Past (stepped j s x) z → Past x z ⊎ Passed j s x z
    step_passes past = ⊎_elim
        (λ t. ⊎_elim (λ l. inl (inr l)) (λ a. inr (dismissed_passes t a))
        (past_from x.depth x.present z x.held (subst (λ (y : Search). Past y z) (stepped_dismissed j s x t) past)))
        (λ f. ⊎_elim
        (λ full. ⊎_elim (λ l. inl (inr l)) (λ a. inr (held_passes f full a))
        (past_from x.depth x.present z (Some (present_at j.count x)) (subst (λ (y : Search). Past y z) (stepped_held j s x f full) past)))
        (λ open_place. inl (inr (past_deeper j s jl sl x sound.well z (subst (λ (y : Search). Past y z) (stepped_deeper j s x f open_place) past))))
        (cases_Bool (full_at j s x)))
        (cases_Bool (dismisses j s x))

  in_order_at : (x : Search) → Well j.count x → (y z : ℕ) → BeforeAt j s x z → Earlier y z → BeforeAt j s x y
  in_order_at x well y z (inl ended) e = inl ended
  in_order_at x well y z (inr l) e =
      let wide = well_wide j.count x jl.few well in
      inr (precedes_lies j.count x jl.few wide y (precedes_earlier x.depth x.present y z (lies_precedes j.count x jl.few wide z l) e))

  pub search_in_order : SearchInOrder j s
  search_in_order = record {
    in_order = λ m x steps. in_order_at x (sound_reached j s jl sl x m steps).well;
    onward = λ m x steps going z before.
        let sound = sound_reached j s jl sl x m steps in
        at_past (stepped j s x) (sound_step j s jl sl x going sound).well z (past_step j s x z going (past_at x sound.well z before));
    passes = λ m x steps going z below before.
        let sound = sound_reached j s jl sl x m steps in
        ⊎_elim (λ past. inl (at_past x sound.well z past)) inr
        (step_passes x going sound z below (past_at (stepped j s x) (sound_step j s jl sl x going sound).well z before));
  }
