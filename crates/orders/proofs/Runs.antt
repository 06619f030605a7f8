-- Runs of an order, call by call, and what they keep.
use Rattle.std.proofs.Common.{◌≡◌, ℕ, suc, ◌+◌, ◌≤◌, true, false, List, [], ◌∷◌, ◌++◌, length, sym, refl, ap, ◌∙◌, subst, arith}
use Rattle.std.proofs.lemmas.Bool.{both_ways, cond-true}
use Rattle.std.specs.List.{list_all}
use Rattle.sheets.specs.Sheets.{width}
use Rattle.sheets.specs.Judging.{Judging}
use Rattle.sheets.specs.Scaling.{Scaling}
use Rattle.orders.specs.declared.acts.Act.{Act}
use Rattle.orders.specs.declared.calls.Call.{Call}
use Rattle.orders.specs.declared.calls.Call.TheVariants.{Pin, Bar, Strike, Undo, Seek, Advance, Settle, Withdraw, Reopen}
use Rattle.orders.specs.declared.calls.Answer.{Answer}
use Rattle.orders.specs.declared.calls.Event.{Event}
use Rattle.orders.specs.Search.{Search}
use Rattle.orders.specs.Acts.{in_range, under}
use Rattle.orders.specs.Searches.{start, Steps, none}
use Rattle.orders.specs.Stages.{Stage, marking, seeking, settled, same_stage, Effect, adds, takes_off, begins, takes_steps, ends, moves, row, calls_had}
use Rattle.orders.specs.Logs.{after_effect, after_calls, calls_of, steps_in, steps_after, steps_from}
use Rattle.orders.specs.Turns.{State, Turn}
use Rattle.orders.proofs.Dockets.{all_after_act, all_after_undo}
use Rattle.orders.proofs.Walks.{steps_join}

-- an order begins marking, with no acts
abbrev pub begun : State
begun = record { stage = marking; acts = []; search = start }

-- a stage is no other
not_seeking : (a b : Stage) → a ≡ b → same_stage b seeking ≡ false → same_stage a seeking ≡ true → ⊥
not_seeking a b e other t = both_ways (same_stage b seeking) other (ap (λ c. same_stage c seeking) (sym e) ∙ t)

all_after_effect : (n : ℕ) (acts : List Act) (e : Effect) → n ≤ width → list_all in_range acts ≡ true → list_all in_range (after_effect n acts e) ≡ true
all_after_effect n acts (adds a) few low = all_after_act n acts a few low
all_after_effect n acts takes_off few low = all_after_undo acts low
all_after_effect n acts begins few low = low
all_after_effect n acts (takes_steps k) few low = low
all_after_effect n acts ends few low = low
all_after_effect n acts moves few low = low

module _ {C : Type 0} (j : Judging) (s : Scaling C) where
  -- the events of the list lead from one state to the other
  abbrev pub Runs : State → List (Event C) → State → Type 0
  Runs t [] u = t ≡ u
  Runs t (e ∷ log) u = (v : State) × Turn j s t e.call e.answer v × Runs v log u

  pub runs_one : (t u v : State) (log : List (Event C)) (c : Call) (r : Answer C) → Runs t log u → Turn j s u c r v → Runs t (log ++ (record { call = c; answer = r } ∷ [])) v
  runs_one t u v [] c r run turn = (v, subst (λ (w : State). Turn j s w c r v) (sym run) turn, refl)
  runs_one t u v (e ∷ log) c r run turn = (run.0, run.1, runs_one run.0 u v log c r run.2 turn)

  pub runs_split : (t u : State) (before after : List (Event C)) → Runs t (before ++ after) u → (v : State) × Runs t before v × Runs v after u
  runs_split t u [] after run = (t, refl, run)
  runs_split t u (e ∷ before) after run =
      let r = runs_split run.0 u before after run.2 in
      (r.0, (run.0, run.1, r.1), r.2)

  -- the acts are those of the docket
  pub acts_run : (t u : State) (log : List (Event C)) → Runs t log u → u.acts ≡ after_calls j.count t.acts (calls_of log)
  acts_run t u [] run = ap (λ w. w.acts) (sym run)
  acts_run t u (e ∷ log) run = acts_run run.0 u log run.2 ∙ ap (λ acts. after_calls j.count acts (calls_of log)) run.1.acts

  -- the stages have the calls
  pub calls_had_run : (t u : State) (log : List (Event C)) (rest : List Call) → Runs t log u → calls_had t.stage (calls_of log ++ rest) ≡ length log + calls_had u.stage rest
  calls_had_run t u [] rest run = ap (λ w. calls_had w.stage rest) run ∙ omega arith
  calls_had_run t u (e ∷ log) rest run =
      let next = (row e.call).to in
      let more = calls_of log ++ rest in
      let ih = calls_had_run run.0 u log rest run.2 in
      cond-true (same_stage t.stage (row e.call).from) (suc (calls_had next more)) 0 run.1.from
      ∙ ap (λ w. suc (calls_had w more)) (sym run.1.to)
      ∙ omega (arith, ih)

  -- ---- the search that goes on

  -- the acts name only marks that there are, and a seeking order has gone n steps
  pub record Gone (n : ℕ) (t : State) : Type 0 where
    pub low : list_all in_range t.acts ≡ true
    pub steps : same_stage t.stage seeking ≡ true → Steps (under j t.acts) s start n t.search

  steps_turn : (k : ℕ) (t : State) (c : Call) (r : Answer C) (u : State) → Gone k t → Turn j s t c r u → same_stage u.stage seeking ≡ true → Steps (under j u.acts) s start (steps_after k (row c).effect r) u.search
  steps_turn k t (Pin mark) r u g turn e = absurd (not_seeking u.stage marking turn.to refl e)
  steps_turn k t (Bar mark) r u g turn e = absurd (not_seeking u.stage marking turn.to refl e)
  steps_turn k t (Strike sheet) r u g turn e = absurd (not_seeking u.stage marking turn.to refl e)
  steps_turn k t Undo r u g turn e = absurd (not_seeking u.stage marking turn.to refl e)
  steps_turn k t Seek r u g turn e = subst (λ (x : Search). Steps (under j u.acts) s start 0 x) (sym turn.searches) none
  steps_turn k t (Advance n) r u g turn e =
      let a = turn.searches in
      let walk = a.2.walked.steps in
      let on = steps_join (under j t.acts) s start t.search u.search k a.0.steps (g.steps turn.from) walk in
      subst (λ (q : Answer C). Steps (under j u.acts) s start (k + steps_in q) u.search) (sym a.1)
      (subst (λ (acts : List Act). Steps (under j acts) s start (k + a.0.steps) u.search) (sym turn.acts) on)
  steps_turn k t Settle r u g turn e = absurd (not_seeking u.stage settled turn.to refl e)
  steps_turn k t Withdraw r u g turn e = absurd (not_seeking u.stage marking turn.to refl e)
  steps_turn k t Reopen r u g turn e = absurd (not_seeking u.stage marking turn.to refl e)

  gone_turn : j.count ≤ width → (k : ℕ) (t : State) (c : Call) (r : Answer C) (u : State) → Gone k t → Turn j s t c r u → Gone (steps_after k (row c).effect r) u
  gone_turn few k t c r u g turn = record {
    low = ap (list_all in_range) turn.acts ∙ all_after_effect j.count t.acts (row c).effect few g.low;
    steps = steps_turn k t c r u g turn;
  }

  pub gone_run : j.count ≤ width → (k : ℕ) (t u : State) (log : List (Event C)) → Gone k t → Runs t log u → Gone (steps_from k log) u
  gone_run few k t u [] g run = subst (λ (w : State). Gone k w) run g
  gone_run few k t u (e ∷ log) g run =
      gone_run few (steps_after k (row e.call).effect e.answer) run.0 u log (gone_turn few k t e.call e.answer run.0 g run.1) run.2

  pub gone_begun : Gone 0 begun
  gone_begun = record { low = refl; steps = λ e. absurd (both_ways false refl e) }
