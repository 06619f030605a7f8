-- What every search keeps: the sheet that is held is the best of those before the place.
use Rattle.std.proofs.Common.{◌≡◌, ℕ, ◌+◌, ◌^◌, ◌<◌, ◌≤◌, true, false, ◌⊎◌, Some, None, Option, sym, refl, ap, ◌∙◌, subst, inl, inr, ⊎_elim, arith, pow_mono}
use Rattle.std.proofs.lemmas.Bool.{both_ways, cases_lt, or_cases, or_parts, not-true, not-false}
use Rattle.sheets.specs.Sheets.{width, has, MarksBelow, Part, Within, Full, Earlier}
use Rattle.sheets.specs.Judging.{Judging, JudgeLaws}
use Rattle.sheets.specs.Scaling.{Scaling, ScaleLaws}
use Rattle.sheets.specs.laws.Bits.{has_high, marks_below, same_marks}
use Rattle.total_order.specs.laws.Orders.{at_most_trans, less_at_most}
use Rattle.orders.specs.Search.{Search}
use Rattle.orders.specs.Searches.{start, present_at, absent_at, dismissed, floor_not_below, dead_at, floor_not_below_at, dismisses, stepped, Steps, none, more, Ended, priced}
use Rattle.orders.specs.Best.{Best}
use Rattle.orders.proofs.Dismissals.{Well, well_wide, Agrees, Precedes, Past, UpTo, dismissed_held, dismissed_well, precedes_on, past_from, past_to}
use Rattle.orders.proofs.Decided.{present_same, place_part, place_within, place_full, full_all, full_open}
use Rattle.orders.proofs.Walks.{deeper, step_cases, steps_join}

-- ---- the order of sheets

-- a sheet within a place is not earlier than one before it
not_earlier : (k p h z : ℕ) → Precedes k p h → Agrees k p z → Earlier z h → ⊥
not_earlier k p h z l a e = ⊎_elim
    (λ lo. both_ways (has z e.mark) e.lacks (a e.mark (omega (arith, l.decided)) ∙ sym (l.agree e.mark lo) ∙ e.other))
    (λ hi. ⊎_elim
    (λ (lt : l.mark < e.mark). both_ways (has h l.mark) l.lacks (sym (e.agree l.mark lt) ∙ a l.mark l.decided ∙ l.there))
    (λ le. let q : e.mark ≡ l.mark = omega arith in both_ways (has z l.mark) (ap (has z) (sym q) ∙ e.lacks) (a l.mark l.decided ∙ l.there))
    (cases_lt l.mark e.mark))
    (cases_lt e.mark l.mark)

not_earlier_self : (z : ℕ) → Earlier z z → ⊥
not_earlier_self z e = both_ways (has z e.mark) e.lacks e.other

-- ---- the best of the allowed sheets in a region

module _ {C : Type 0} (j : Judging) (s : Scaling C) where
  abbrev pub BestIn : (ℕ → Type 0) → Option ℕ → Type 0
  BestIn R None = (z : ℕ) → j.allows z → R z → ⊥
  BestIn R (Some h) =
      j.allows h
      × R h
      × ((z : ℕ) → j.allows z → R z → s.below (s.cost z) (s.cost h) ≡ false)
      × ((z : ℕ) → j.allows z → R z → Earlier z h → s.below (s.cost h) (s.cost z) ≡ true)

  best_like : (R Q : ℕ → Type 0) → ((z : ℕ) → R z → Q z) → ((z : ℕ) → Q z → R z) → (h : Option ℕ) → BestIn R h → BestIn Q h
  best_like R Q to from None b = λ z al q. b z al (from z q)
  best_like R Q to from (Some h) b = (b.0, to h b.1, (λ z al q. b.2 z al (from z q)), (λ z al q e. b.3 z al (from z q) e))

  -- more sheets of which none is allowed
  best_none : (R A : ℕ → Type 0) → ((z : ℕ) → j.allows z → A z → ⊥) → (h : Option ℕ) → BestIn R h → BestIn (λ z. R z ⊎ A z) h
  best_none R A barren None b = λ z al q. ⊎_elim (b z al) (barren z al) q
  best_none R A barren (Some h) b =
      (b.0, inl b.1, (λ z al q. ⊎_elim (b.2 z al) (λ a. absurd (barren z al a)) q), (λ z al q e. ⊎_elim (λ r. b.3 z al r e) (λ a. absurd (barren z al a)) q))

  -- more sheets of which none costs less than the one held, and none is earlier
  best_no_cheaper : (R A : ℕ → Type 0) (h : ℕ) → ((z : ℕ) → j.allows z → A z → s.below (s.cost z) (s.cost h) ≡ false) → ((z : ℕ) → A z → Earlier z h → ⊥)
      → BestIn R (Some h) → BestIn (λ z. R z ⊎ A z) (Some h)
  best_no_cheaper R A h dear late b =
      (b.0, inl b.1, (λ z al q. ⊎_elim (b.2 z al) (dear z al) q), (λ z al q e. ⊎_elim (λ r. b.3 z al r e) (λ a. absurd (late z a e)) q))

  -- what a search keeps
  pub record Sound (x : Search) : Type 0 where
    pub well : Well j.count x
    pub best : BestIn (Past x) x.held

  pub sound_start : Sound start
  sound_start = record {
    well = record { few = omega arith; low = omega arith };
    best = λ z al b. ⊎_elim (λ bad. both_ways false refl bad) (λ l. omega (arith, l.decided)) b;
  }

module _ {C : Type 0} (j : Judging) (s : Scaling C) (jl : JudgeLaws j) (sl : ScaleLaws s) where
  -- ---- one step

  dismiss_sound : (k p : ℕ) (h : Option ℕ) → k ≤ j.count → p < 2 ^ k → BestIn j s (UpTo k p) h → Sound j s (dismissed k p h)
  dismiss_sound k p h le low b =
      let w = dismissed_well k p h low in
      record {
        well = record { few = omega (arith, w.few); low = w.low };
        best = subst (λ o. BestIn j s (Past (dismissed k p h)) o) (sym (dismissed_held k p h))
            (best_like j s (UpTo k p) (Past (dismissed k p h)) (λ z r. past_to k p z h r) (λ z r. past_from k p z h r) h b);
      }

  module _ (x : Search) (well : Well j.count x) where
    abbrev here : ℕ → Type 0
    here = Agrees x.depth x.present

    abbrev before : ℕ → Type 0
    before = Precedes x.depth x.present

    wide : Well width x
    wide = well_wide j.count x jl.few well

    within : (z : ℕ) → j.allows z → here z → Within (present_at j.count x) (absent_at j.count x) z
    within z al a = place_within j.count x jl.few wide z (jl.inside z al) a

    part : Part (present_at j.count x) (absent_at j.count x)
    part = place_part j.count x jl.few wide

    -- no sheet within a dead place is allowed
    pub dead_barren : dead_at j s x ≡ true → (z : ℕ) → j.allows z → here z → ⊥
    dead_barren dead z al a = jl.sound (present_at j.count x) (absent_at j.count x) z part dead (within z al a) al

    -- no sheet within a place whose floor is not below the cost of the sheet that is held costs less than that sheet
    pub within_no_cheaper : (h z : ℕ) → floor_not_below s (Some h) (s.floor (present_at j.count x) (absent_at j.count x)) ≡ true → Within (present_at j.count x) (absent_at j.count x) z
        → s.below (s.cost z) (s.cost h) ≡ false
    within_no_cheaper h z dear within =
        let floor = s.floor (present_at j.count x) (absent_at j.count x) in
        at_most_trans s.below sl.order (s.cost z) floor (s.cost h)
        (sl.bound (present_at j.count x) (absent_at j.count x) z part within)
        (not-true (s.below floor (s.cost h)) dear)

    case_dead : dead_at j s x ≡ true → BestIn j s before x.held → BestIn j s (UpTo x.depth x.present) x.held
    case_dead dead b = best_none j s before here (dead_barren dead) x.held b

    case_floor : (h : Option ℕ) → floor_not_below s h (s.floor (present_at j.count x) (absent_at j.count x)) ≡ true → BestIn j s before h → BestIn j s (UpTo x.depth x.present) h
    case_floor None dear b = absurd (both_ways false refl dear)
    case_floor (Some h) dear b =
        best_no_cheaper j s before here h (λ z al a. within_no_cheaper h z dear (within z al a)) (λ z a e. not_earlier x.depth x.present h z b.1 a e) b

    module _ (full : j.count ≤ x.depth) where
      -- of the sheets of marks below the count, only its own lies within a full place
      pub only_sheet : (z : ℕ) → MarksBelow j.count z → here z → z ≡ x.present
      only_sheet z below a =
          let e : j.count ≡ x.depth = omega (arith, well.few) in
          same_marks x.depth z x.present (subst (λ n. z < 2 ^ n) e (marks_below j.count z below)) well.low a

      every : Full (present_at j.count x) (absent_at j.count x)
      every = place_full j.count x jl.few wide full

      its_floor : s.floor (present_at j.count x) (absent_at j.count x) ≡ s.cost x.present
      its_floor = sl.exact (present_at j.count x) (absent_at j.count x) part every ∙ ap s.cost (present_same j.count x jl.few wide)

      -- each allowed sheet before it costs more
      less : (h : Option ℕ) → floor_not_below s h (s.floor (present_at j.count x) (absent_at j.count x)) ≡ false → BestIn j s before h
          → (z : ℕ) → j.allows z → before z → s.below (s.cost x.present) (s.cost z) ≡ true
      less None cheap b z al l = absurd (b z al l)
      less (Some h) cheap b z al l =
          less_at_most s.below sl.order (s.cost x.present) (s.cost h) (s.cost z)
          (ap (λ f. s.below f (s.cost h)) (sym its_floor) ∙ not-false (s.below (s.floor (present_at j.count x) (absent_at j.count x)) (s.cost h)) cheap)
          (b.2 z al l)

      case_held : dismisses j s x ≡ false → BestIn j s before x.held → BestIn j s (UpTo x.depth x.present) (Some x.present)
      case_held kept b =
          let parts = or_parts (dead_at j s x) (floor_not_below_at j s x) kept in
          let costs = less x.held parts.1 b in (
            subst j.allows (present_same j.count x jl.few wide) (jl.full_allowed (present_at j.count x) (absent_at j.count x) part every parts.0),
            inr (λ i lt. refl),
            (λ z al q. ⊎_elim
                (λ l. sl.order.asymmetric (s.cost x.present) (s.cost z) (costs z al l))
                (λ a. ap (λ y. s.below (s.cost y) (s.cost x.present)) (only_sheet z (jl.inside z al) a) ∙ sl.order.irreflexive (s.cost x.present)) q),
            (λ z al q e. ⊎_elim
                (costs z al)
                (λ a. absurd (not_earlier_self x.present (subst (λ y. Earlier y x.present) (only_sheet z (jl.inside z al) a) e))) q),
          )

    -- one decision more leaves nothing more before the place
    pub past_deeper : (z : ℕ) → Past (deeper x) z → before z
    past_deeper z (inl bad) = absurd (both_ways false refl bad)
    past_deeper z (inr l) = record {
      mark = l.mark;
      decided = ⊎_elim (λ lt. lt) (λ le. absurd (both_ways (has x.present l.mark) (has_high x.depth x.present l.mark well.low le) l.there)) (cases_lt l.mark x.depth);
      lacks = l.lacks;
      there = l.there;
      agree = l.agree;
    }

    case_deeper : BestIn j s before x.held → BestIn j s (Past (deeper x)) x.held
    case_deeper b =
        best_like j s before (Past (deeper x))
        (λ z l. inr (precedes_on x.depth (x.depth + 1) x.present x.present z (λ i lt. refl) (omega arith) l))
        past_deeper x.held b

  pub deeper_well : (x : Search) → x.depth < j.count → Well j.count x → Well j.count (deeper x)
  deeper_well x lt well =
      let wide : 2 ^ x.depth ≤ 2 ^ (x.depth + 1) = pow_mono {i = x.depth} {j = x.depth + 1} (omega arith) in
      record { few = omega arith; low = omega (arith, well.low) }

  pub sound_step : (x : Search) → x.finished ≡ false → Sound j s x → Sound j s (stepped j s x)
  sound_step x going sound =
      let well = sound.well in
      let wide = well_wide j.count x jl.few well in
      let b : BestIn j s (Precedes x.depth x.present) x.held =
      best_like j s (Past x) (Precedes x.depth x.present) (λ z q. ⊎_elim (λ bad. absurd (both_ways x.finished going bad)) (λ l. l) q) (λ z l. inr l) x.held sound.best in
      step_cases j s x (Sound j s)
      (λ t. dismiss_sound x.depth x.present x.held well.few well.low
      (⊎_elim (λ d. case_dead x well d b) (λ d. case_floor x well x.held d b) (or_cases (dead_at j s x) (floor_not_below_at j s x) t)))
      (λ f full. subst (λ z. Sound j s (dismissed x.depth x.present (Some z))) (sym (present_same j.count x jl.few wide))
      (dismiss_sound x.depth x.present (Some x.present) well.few well.low (case_held x well (full_all j.count x jl.few wide full) f b)))
      (λ f open_place. record { well = deeper_well x (full_open j.count x jl.few wide open_place) well; best = case_deeper x well b })

  -- ---- every search that began at the start

  sound_steps : (x y : Search) (m : ℕ) → Steps j s x m y → Sound j s x → Sound j s y
  sound_steps x y m none sound = sound
  sound_steps x y m (more going rest) sound = sound_steps (stepped j s x) y _ rest (sound_step x going sound)

  pub sound_reached : (x : Search) (m : ℕ) → Steps j s start m x → Sound j s x
  sound_reached x m steps = sound_steps start x m steps (sound_start j s)

  pub best_finished : (x : Search) → x.finished ≡ true → Sound j s x → Best j s (priced s x.held)
  best_finished x ended sound = go x.held sound.best
    where
      go : (h : Option ℕ) → BestIn j s (Past x) h → Best j s (priced s h)
      go None best = λ z al. best z al (inl ended)
      go (Some h) best = record {
        allowed = best.0;
        its_cost = refl;
        least = λ y al. best.2 y al (inl ended);
        first = λ y al e. best.3 y al (inl ended) e;
      }

  -- a search that began at the start ends on the best sheet
  pub ended_best : (x y : Search) (m : ℕ) → Steps j s start m x → Ended j s x y → Best j s (priced s y.held)
  ended_best x y m steps e =
      best_finished y e.finished (sound_reached y (m + e.remaining) (steps_join j s start x y m e.remaining steps e.steps))
