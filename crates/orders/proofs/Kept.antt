-- What every log keeps, from the run that made it.
use Rattle.std.proofs.Common.{◌≡◌, ℕ, ◌+◌, ◌≤◌, min, true, ◌⊎◌, List, [], ◌∷◌, ◌++◌, length, take, Option, sym, refl, ap, ◌∙◌, subst, ap₂, ⊎_elim, arith}
use Rattle.std.specs.List.{list_all}
use Rattle.sheets.specs.Judging.{Judging, JudgeLaws}
use Rattle.sheets.specs.Scaling.{Scaling, ScaleLaws}
use Rattle.orders.specs.declared.acts.Act.{Act}
use Rattle.orders.specs.declared.calls.Call.{Call}
use Rattle.orders.specs.declared.calls.Call.TheVariants.{Advance, Settle}
use Rattle.orders.specs.declared.calls.Progress.{Progress}
use Rattle.orders.specs.declared.calls.Answer.{Answer}
use Rattle.orders.specs.declared.calls.Answer.TheVariants.{Shown, Final}
use Rattle.orders.specs.declared.calls.Event.{Event}
use Rattle.orders.specs.Search.{Search}
use Rattle.orders.specs.Acts.{in_range, under}
use Rattle.orders.specs.Searches.{start, Steps, none, priced}
use Rattle.orders.specs.Best.{Best, CostsAtMost}
use Rattle.orders.specs.Calls.{Advanced, ShowsCheapest}
use Rattle.orders.specs.Stages.{marking, calls_had}
use Rattle.orders.specs.Logs.{docket, calls_of, ByDocket, EventIn, steps_so_far, OnlyAdvances, Shows, Settles, acts_at, Kept}
use Rattle.orders.specs.Turns.{State, Turn}
use Rattle.orders.proofs.Walks.{steps_join}
use Rattle.orders.proofs.Remaining.{steps_bound}
use Rattle.orders.proofs.Falls.{falls}
use Rattle.orders.specs.laws.Under.{under_laws, more_acts_best}
use Rattle.orders.proofs.Runs.{Runs, begun, runs_split, acts_run, calls_had_run, Gone, gone_begun, gone_run}

same_shown : {C : Type 0} (p q : Progress C) → Shown p ≡ Shown q → p ≡ q
same_shown p q e = cc

same_final : {C : Type 0} (x y : Option (ℕ × C)) → Final x ≡ Final y → x ≡ y
same_final x y e = cc

module _ {C : Type 0} (j : Judging) (s : Scaling C) (jl : JudgeLaws j) (sl : ScaleLaws s) where
  -- ---- a settling and an advance, k steps after their search began

  shows : (acts : List Act) (n k : ℕ) (x y : Search) (p : Progress C) → Steps (under j acts) s start k x → Advanced (under j acts) s n x p y → ShowsCheapest (under j acts) s p → Shows (under j acts) s n k p
  shows acts n k x y p steps a cheapest = record {
    reached = y;
    steps = steps_join (under j acts) s start x y k p.steps steps a.walked.steps;
    few = a.walked.few;
    all = λ lt. a.shown.finished ∙ a.walked.all lt;
    shown = a.shown;
    cheapest = cheapest;
  }

  settle_turn : (k : ℕ) (t : State) (r : Answer C) (u : State) → Gone j s k t → Turn j s t Settle r u → (answer : Option (ℕ × C)) × (r ≡ Final answer) × Settles (under j t.acts) s k answer
  settle_turn k t r u g turn =
      let last = turn.searches.0 in
      let e = turn.searches.2 in
      let on = steps_join (under j t.acts) s start t.search last k e.remaining (g.steps turn.from) e.steps in (
        priced s last.held,
        turn.searches.1,
        record {
          reached = last;
          remaining = e.remaining;
          steps = on;
          finished = e.finished;
          few = steps_bound (under j t.acts) s jl.few last (k + e.remaining) on;
          held = refl;
          best = turn.searches.3;
        },
      )

  advance_turn : (k n : ℕ) (t : State) (r : Answer C) (u : State) → Gone j s k t → Turn j s t (Advance n) r u → (p : Progress C) × (r ≡ Shown p) × Shows (under j t.acts) s n k p
  advance_turn k n t r u g turn =
      let a = turn.searches in
      (a.0, a.1, shows t.acts n k t.search u.search a.0 (g.steps turn.from) a.2 a.3)

  -- ---- an event of a run, between the states before and after it

  record AtEvent (before after : List (Event C)) (c : Call) (r : Answer C) (last : State) : Type 0 where
    from : State
    to : State
    turn : Turn j s from c r to
    rest : Runs j s to after last
    acts : from.acts ≡ docket j.count (calls_of before)
    gone : Gone j s (steps_so_far before) from

  at_event : (log before after : List (Event C)) (c : Call) (r : Answer C) (u : State) → Runs j s begun log u → log ≡ before ++ (record { call = c; answer = r } ∷ after) → AtEvent before after c r u
  at_event log before after c r u run e =
      let parts = runs_split j s begun u before (record { call = c; answer = r } ∷ after) (subst (λ l. Runs j s begun l u) e run) in
      record {
        from = parts.0;
        to = parts.2.0;
        turn = parts.2.1;
        rest = parts.2.2;
        acts = acts_run j s begun parts.0 before parts.1;
        gone = gone_run j s jl.few 0 begun parts.0 before (gone_begun j s) parts.1;
      }

  -- ---- one search

  -- advances one after another
  advances_run : (t u : State) (log : List (Event C)) → OnlyAdvances log → Runs j s t log u → (m : ℕ) × (u.acts ≡ t.acts) × Steps (under j t.acts) s t.search m u.search
  advances_run t u [] only run = (0, ap (λ w. w.acts) (sym run), subst (λ (w : State). Steps (under j t.acts) s t.search 0 w.search) run none)
  advances_run t u (e ∷ log) only run =
      let v = run.0 in
      let turn : Turn j s t (Advance only.0.0) e.answer v = subst (λ (c : Call). Turn j s t c e.answer v) only.0.1 run.1 in
      let a = turn.searches in
      let ih = advances_run v u log only.1 run.2 in (
        a.0.steps + ih.0,
        ih.1 ∙ turn.acts,
        steps_join (under j t.acts) s t.search v.search u.search a.0.steps ih.0 a.2.walked.steps
            (subst (λ (acts : List Act). Steps (under j acts) s v.search ih.0 u.search) turn.acts ih.2),
      )

  -- p was shown, and no more than advances came between it and the state w
  record Since (p : Progress C) (w : State) : Type 0 where
    first : Search
    many : ℕ
    more : ℕ
    low : list_all in_range w.acts ≡ true
    steps : Steps (under j w.acts) s start many first
    held : p.held ≡ priced s first.held
    then : Steps (under j w.acts) s first more w.search

  since : (k n : ℕ) (t u w : State) (p : Progress C) (middle : List (Event C)) → Gone j s k t → Turn j s t (Advance n) (Shown p) u → OnlyAdvances middle → Runs j s u middle w → Since p w
  since k n t u w p middle g turn only run =
      let a = turn.searches in
      let mid = advances_run u w middle only run in
      let same : t.acts ≡ w.acts = sym (mid.1 ∙ turn.acts) in
      let on = steps_join (under j t.acts) s start t.search u.search k a.0.steps (g.steps turn.from) a.2.walked.steps in
      record {
        first = u.search;
        many = k + a.0.steps;
        more = mid.0;
        low = ap (list_all in_range) (sym same) ∙ g.low;
        steps = subst (λ (acts : List Act). Steps (under j acts) s start (k + a.0.steps) u.search) same on;
        held = ap (λ q. q.held) (same_shown p a.0 a.1) ∙ a.2.shown.held;
        then = subst (λ (acts : List Act). Steps (under j acts) s u.search mid.0 w.search) (sym mid.1) mid.2;
      }

  falls_since : (p : Progress C) (w : State) (y : Search) (n : ℕ) → Since p w → Steps (under j w.acts) s w.search n y → CostsAtMost s (priced s y.held) p.held
  falls_since p w y n b rest =
      subst (λ h. CostsAtMost s (priced s y.held) h) (sym b.held)
      (falls (under j w.acts) s (under_laws j w.acts b.low jl) sl b.first y b.many (b.more + n) b.steps
      (steps_join (under j w.acts) s b.first w.search y b.more n b.then rest))

  module _ (log : List (Event C)) (u : State) (run : Runs j s begun log u) where
    falling_run : (n k : ℕ) (p q : Progress C) (before middle after : List (Event C)) → OnlyAdvances middle →
        log ≡ before ++ (record { call = Advance n; answer = Shown p } ∷ (middle ++ (record { call = Advance k; answer = Shown q } ∷ after))) → CostsAtMost s q.held p.held
    falling_run n k p q before middle after only e =
        let last : List (Event C) = record { call = Advance k; answer = Shown q } ∷ after in
        let here = at_event log before (middle ++ last) (Advance n) (Shown p) u run e in
        let parts = runs_split j s here.to u middle last here.rest in
        let b = since (steps_so_far before) n here.from here.to parts.0 p middle here.gone here.turn only parts.1 in
        let a = parts.2.1.searches in
        let held : q.held ≡ priced s parts.2.0.search.held = ap (λ x. x.held) (same_shown q a.0 a.1) ∙ a.2.shown.held in
        subst (λ h. CostsAtMost s h p.held) (sym held) (falls_since p parts.0 parts.2.0.search a.0.steps b a.2.walked.steps)

    ending_run : (n : ℕ) (p : Progress C) (answer : Option (ℕ × C)) (before middle after : List (Event C)) → OnlyAdvances middle →
        log ≡ before ++ (record { call = Advance n; answer = Shown p } ∷ (middle ++ (record { call = Settle; answer = Final answer } ∷ after))) → CostsAtMost s answer p.held
    ending_run n p answer before middle after only e =
        let last : List (Event C) = record { call = Settle; answer = Final answer } ∷ after in
        let here = at_event log before (middle ++ last) (Advance n) (Shown p) u run e in
        let parts = runs_split j s here.to u middle last here.rest in
        let b = since (steps_so_far before) n here.from here.to parts.0 p middle here.gone here.turn only parts.1 in
        let a = parts.2.1.searches in
        subst (λ h. CostsAtMost s h p.held) (sym (same_final answer (priced s a.0.held) a.1)) (falls_since p parts.0 a.0 a.2.remaining b a.2.steps)

    -- ---- the whole promise

    settled_at : (r : Answer C) (e : EventIn log Settle r) → (answer : Option (ℕ × C)) × (r ≡ Final answer) × Settles (under j (acts_at j s e)) s (steps_so_far e.before) answer
    settled_at r e =
        let here = at_event log e.before e.after Settle r u run e.here in
        subst (λ (acts : List Act). (answer : Option (ℕ × C)) × (r ≡ Final answer) × Settles (under j acts) s (steps_so_far e.before) answer) here.acts
        (settle_turn (steps_so_far e.before) here.from r here.to here.gone here.turn)

    best_at : (x : Option (ℕ × C)) (e : EventIn log Settle (Final x)) → Best (under j (acts_at j s e)) s x
    best_at x e =
        let t = settled_at (Final x) e in
        subst (Best (under j (acts_at j s e)) s) (sym (same_final x t.0 t.1)) t.2.best

    -- the rest of the calls is not answered: the room is at its end, or the stage does not have the next call
    pub kept : (room : ℕ) (calls rest : List Call) → calls ≡ calls_of log ++ rest → length log ≤ room → (calls_had u.stage rest ≡ 0) ⊎ (length log ≡ room) → Kept j s room calls log
    kept room calls rest e fits stop = record {
      answered =
          let many : calls_had marking calls ≡ length log + calls_had u.stage rest = ap (calls_had marking) e ∙ calls_had_run j s begun u log rest run in
          let few : min (calls_had marking calls) room ≡ length log = ⊎_elim (λ z. omega (arith, many, z)) (λ z. omega (arith, many, z)) stop in
          sym (ap₂ (λ (m : ℕ) (cs : List Call). take m cs) few e ∙ take_calls log rest);
      decided = λ c r ev.
          let here = at_event log ev.before ev.after c r u run ev.here in
          subst (λ (acts : List Act). ByDocket j.count acts c r) here.acts here.turn.decided;
      settlings = settled_at;
      advances = λ n r ev.
          let here = at_event log ev.before ev.after (Advance n) r u run ev.here in
          subst (λ (acts : List Act). (p : Progress C) × (r ≡ Shown p) × Shows (under j acts) s n (steps_so_far ev.before) p) here.acts
          (advance_turn (steps_so_far ev.before) n here.from r here.to here.gone here.turn);
      falling = falling_run;
      ending = ending_run;
      more_acts = λ x y ev fv included. more_acts_best j s (acts_at j s ev) (acts_at j s fv) x y included (best_at x ev) (best_at y fv);
    }
      where
        take_calls : (l : List (Event C)) (rest : List Call) → take (length l) (calls_of l ++ rest) ≡ calls_of l
        take_calls [] rest = refl
        take_calls (ev ∷ l) rest = ap (λ cs. ev.call ∷ cs) (take_calls l rest)
