-- A log while an order is conducted: what was added to it, call by call, and what it is where the calls stop.
use Rattle.std.proofs.Common.{◌≡◌, ℕ, suc, ◌+◌, ◌<◌, ◌≤◌, false, ◌⊎◌, List, [], ◌∷◌, ◌++◌, length, get_or, take, drop, sym, refl, ap, ◌∙◌, inl, inr, arith}
use Rattle.std.proofs.lemmas.List.{append-nil, append_assoc, length-append, take-append-drop, take_all, take_more, drop_more, map_push}
use Rattle.std.proofs.lemmas.Bool.{cond-false}
use Rattle.sheets.specs.Judging.{Judging, JudgeLaws}
use Rattle.sheets.specs.Scaling.{Scaling, ScaleLaws}
use Rattle.orders.specs.declared.acts.Act.{Act}
use Rattle.orders.specs.declared.calls.Call.{Call}
use Rattle.orders.specs.declared.calls.Answer.{Answer}
use Rattle.orders.specs.declared.calls.Event.{Event}
use Rattle.orders.specs.Searches.{start}
use Rattle.orders.specs.Stages.{marking, same_stage, row, calls_had}
use Rattle.orders.specs.Logs.{calls_of, Conducted}
use Rattle.orders.specs.Turns.{State, Turn}
use Rattle.orders.proofs.Runs.{Runs, begun, runs_one}
use Rattle.orders.proofs.Kept.{kept}

module _ {C : Type 0} (j : Judging) (s : Scaling C) (calls : List Call) (before : List (Event C)) where
  -- the first i calls were answered, and led to u
  pub record Along (after : List (Event C)) (i : ℕ) (u : State) : Type 0 where
    pub events : List (Event C)
    pub added : after ≡ before ++ events
    pub called : calls_of events ≡ take i calls
    pub run : Runs j s begun events u

  pub along_none : (acts : List Act) → acts ≡ [] → Along before 0 (record { stage = marking; acts = acts; search = start })
  along_none acts e = record {
    events = [];
    added = sym (append-nil before);
    called = refl;
    run = ap (λ (a : List Act). record { stage = marking; acts = a; search = start }) (sym e);
  }

  pub along_more : (after longer : List (Event C)) (i : ℕ) (u v : State) (d : Call) (r : Answer C) → Along after i u → i < length calls → Turn j s u (get_or calls i d) r v
      → longer ≡ after ++ (record { call = get_or calls i d; answer = r } ∷ []) → Along longer (i + 1) v
  along_more after longer i u v d r a lt turn more =
      let e : Event C = record { call = get_or calls i d; answer = r } in
      record {
        events = a.events ++ (e ∷ []);
        added = more ∙ ap (λ l. l ++ (e ∷ [])) a.added ∙ append_assoc before a.events (e ∷ []);
        called = map_push (λ x. x.call) a.events e ∙ ap (λ cs. cs ++ (get_or calls i d ∷ [])) a.called ∙ sym (take_more calls i d lt);
        run = runs_one j s begun u v a.events (get_or calls i d) r a.run turn;
      }

  module _ (jl : JudgeLaws j) (sl : ScaleLaws s) (room : ℕ) (after : List (Event C)) (i : ℕ) (u : State) (a : Along after i u) (fits : length after ≤ length before + room) where
    many : length after ≡ length before + length a.events
    many = ap length a.added ∙ length-append before a.events

    -- the calls that are left, of which none is to be answered
    along_ends : (rest : List Call) → calls ≡ calls_of a.events ++ rest → (calls_had u.stage rest ≡ 0) ⊎ (length a.events ≡ room) → Conducted j s room calls before after
    along_ends rest e stop = record {
      events = a.events;
      added = a.added;
      kept = kept j s jl sl a.events u a.run room calls rest e (omega (arith, many)) stop;
    }

    -- the calls come to their end
    pub along_all : length calls ≤ i → Conducted j s room calls before after
    along_all le = along_ends [] (sym (append-nil (calls_of a.events) ∙ a.called ∙ take_all i calls le)) (inl refl)

    left_over : calls ≡ calls_of a.events ++ drop i calls
    left_over = sym (ap (λ cs. cs ++ drop i calls) a.called ∙ take-append-drop i calls)

    -- the room comes to its end
    pub along_room : length before + room ≤ length after → Conducted j s room calls before after
    along_room full = along_ends (drop i calls) left_over (inr (omega (arith, many)))

    -- the stage does not have the next call
    pub along_stops : (d : Call) → i < length calls → same_stage u.stage (row (get_or calls i d)).from ≡ false → Conducted j s room calls before after
    along_stops d lt missing =
        let next = get_or calls i d in
        along_ends (drop i calls) left_over
        (inl (ap (calls_had u.stage) (drop_more calls i d lt) ∙ cond-false (same_stage u.stage (row next).from) (suc (calls_had (row next).to (drop (i + 1) calls))) 0 missing))
