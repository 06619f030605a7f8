-- What every log of the calls on an order keeps.
use Rattle.std.specs.Prelude.{◌≡◌, ℕ, suc, ◌+◌, ◌-◌, ◌^◌, ◌<◌, ◌≤◌, min, true, List, [], ◌∷◌, ◌++◌, map, take, Ok, Err, Option, Result}
use Rattle.sheets.specs.Sheets.{Sheet, Count}
use Rattle.sheets.specs.Judging.{Judging}
use Rattle.sheets.specs.Scaling.{Scaling}
use Rattle.orders.specs.declared.acts.Act.{Act}
use Rattle.orders.specs.declared.acts.Refusal.{Refusal}
use Rattle.orders.specs.declared.calls.Call.{Call}
use Rattle.orders.specs.declared.calls.Call.TheVariants.{Advance, Settle}
use Rattle.orders.specs.declared.calls.Progress.{Progress}
use Rattle.orders.specs.declared.calls.Answer.{Answer}
use Rattle.orders.specs.declared.calls.Answer.TheVariants.{Stands, Refused, Moved, Shown, Final}
use Rattle.orders.specs.declared.calls.Event.{Event}
use Rattle.orders.specs.Search.{Search}
use Rattle.orders.specs.Acts.{under}
use Rattle.orders.specs.Dockets.{refused_act, undo_refused, after_act, after_undo, returned}
use Rattle.orders.specs.Searches.{start, Steps, priced}
use Rattle.orders.specs.Best.{Best, CostsAtMost}
use Rattle.orders.specs.Calls.{Showing, ShowsCheapest}
use Rattle.orders.specs.Stages.{marking, Effect, adds, takes_off, begins, takes_steps, ends, moves, row, calls_had}

-- ---- the docket, from the count n and the calls alone

-- the acts after a call that does this
abbrev pub after_effect : Count → List Act → Effect → List Act
after_effect n acts (adds a) = after_act n acts a
after_effect n acts takes_off = after_undo acts
after_effect n acts begins = acts
after_effect n acts (takes_steps k) = acts
after_effect n acts ends = acts
after_effect n acts moves = acts

-- the acts after one call more
abbrev pub after_call : Count → List Act → Call → List Act
after_call n acts c = after_effect n acts (row c).effect

-- the acts after these calls
abbrev pub after_calls : Count → List Act → List Call → List Act
after_calls n acts [] = acts
after_calls n acts (c ∷ calls) = after_calls n (after_call n acts c) calls

-- the acts that stand after the calls
abbrev pub docket : Count → List Call → List Act
docket n calls = after_calls n [] calls

-- ---- answers that the docket decides

-- what a call on the acts returned, as an answer
abbrev pub answer_of : {C : Type 0} → Result ℕ Refusal → Answer C
answer_of (Ok count) = Stands count
answer_of (Err why) = Refused why

-- the answer to a call that does this, where it is no advance and no settle, by the count n and the acts that stood before it
abbrev pub Decided : {C : Type 0} → Count → List Act → Effect → Answer C → Type 0
Decided n acts (adds a) r = r ≡ answer_of (returned (refused_act n acts a) (after_effect n acts (adds a)))
Decided n acts takes_off r = r ≡ answer_of (returned (undo_refused acts) (after_effect n acts takes_off))
Decided n acts begins r = r ≡ Moved
Decided n acts (takes_steps k) r = Unit {0}
Decided n acts ends r = Unit {0}
Decided n acts moves r = r ≡ Moved

-- the same of a call
abbrev pub ByDocket : {C : Type 0} → Count → List Act → Call → Answer C → Type 0
ByDocket n acts c r = Decided n acts (row c).effect r

-- ---- events

-- the calls of a log, in order
abbrev pub calls_of : {C : Type 0} → List (Event C) → List Call
calls_of log = map (λ e. e.call) log

-- an event of the log, between what came before and after it
pub record EventIn {C : Type 0} (log : List (Event C)) (c : Call) (r : Answer C) : Type 0 where
  pub before : List (Event C)
  pub after : List (Event C)
  pub here : log ≡ before ++ (record { call = c; answer = r } ∷ after)

-- the steps that an advance took
abbrev pub steps_in : {C : Type 0} → Answer C → ℕ
steps_in (Stands count) = 0
steps_in (Refused why) = 0
steps_in Moved = 0
steps_in (Shown p) = p.steps
steps_in (Final answer) = 0

-- the number of steps, n so far, after a call that does this
abbrev pub steps_after : {C : Type 0} → ℕ → Effect → Answer C → ℕ
steps_after n (adds a) r = n
steps_after n takes_off r = n
steps_after n begins r = 0
steps_after n (takes_steps k) r = n + steps_in r
steps_after n ends r = n
steps_after n moves r = n

-- the same after the events of a log
abbrev pub steps_from : {C : Type 0} → ℕ → List (Event C) → ℕ
steps_from n [] = n
steps_from n (e ∷ log) = steps_from (steps_after n (row e.call).effect e.answer) log

-- how many steps the advances after the last seek of the log took; a settling's own are not counted
abbrev pub steps_so_far : {C : Type 0} → List (Event C) → ℕ
steps_so_far log = steps_from 0 log

-- each event is an advance
abbrev pub OnlyAdvances : {C : Type 0} → List (Event C) → Type 0
OnlyAdvances [] = Unit {0}
OnlyAdvances (e ∷ log) = ((n : ℕ) × (e.call ≡ Advance n)) × OnlyAdvances log

-- ---- advances and settlings

module _ {C : Type 0} (j : Judging) (s : Scaling C) where
  -- what an advance by n returns, `before` steps after its search began
  pub record Shows (n before : ℕ) (p : Progress C) : Type 0 where
    -- the defined steps lead to this search
    pub reached : Search
    pub steps : Steps j s start (before + p.steps) reached
    -- they are n, or those that remain if fewer
    pub few : p.steps ≤ n
    pub all : p.steps < n → p.finished ≡ true
    -- this search is shown
    pub shown : Showing j s reached p
    -- its sheet is allowed, and nothing cheaper lies before its place
    pub cheapest : ShowsCheapest j s p

  -- what a settling answers, `before` steps after its search began
  pub record Settles (before : ℕ) (answer : Option (Sheet × C)) : Type 0 where
    -- the defined steps that remain lead to the end of the search
    pub reached : Search
    pub remaining : ℕ
    pub steps : Steps j s start (before + remaining) reached
    pub finished : reached.finished ≡ true
    -- in all they are no more than there are places
    pub few : before + remaining ≤ 2 ^ suc j.count - 1
    -- the answer is the sheet that is held then, with its cost
    pub held : answer ≡ priced s reached.held
    -- it costs least, and each earlier sheet costs more; no sheet is answered exactly when none is allowed
    pub best : Best j s answer

-- ---- the acts of two settlings

-- the act is one of these (order and repetition do not count)
abbrev pub Among : Act → List Act → Type 0
Among a acts = (before : List Act) × (after : List Act) × (acts ≡ before ++ (a ∷ after))

-- every act of the first list is also one of the second (order and repetition do not count)
abbrev pub Included : List Act → List Act → Type 0
Included few many = (a : Act) → Among a few → Among a many

-- ---- the whole promise

module _ {C : Type 0} (j : Judging) (s : Scaling C) where
  -- the acts that stood before an event
  abbrev pub acts_at : {log : List (Event C)} {c : Call} {r : Answer C} → EventIn log c r → List Act
  acts_at e = docket j.count (calls_of e.before)

  -- the log of an order over the judge and the scale, from its beginning, by these calls and with so much room
  pub record Kept (room : ℕ) (calls : List Call) (log : List (Event C)) : Type 0 where
    -- the calls are answered, up to the first that its stage does not have or to the end of the room
    pub answered : calls_of log ≡ take (min (calls_had marking calls) room) calls
    -- pin, bar, strike and undo are answered by the docket; seek, withdraw and reopen lead to another stage
    pub decided : (c : Call) (r : Answer C) (e : EventIn log c r) → ByDocket j.count (acts_at e) c r
    -- a settling ends the search, on the cheapest sheet that is allowed and keeps the acts, or on no sheet
    pub settlings : (r : Answer C) (e : EventIn log Settle r) → (answer : Option (Sheet × C)) × (r ≡ Final answer) × Settles (under j (acts_at e)) s (steps_so_far e.before) answer
    -- an advance takes the defined steps, and leaves nothing cheaper before the place
    pub advances : (n : ℕ) (r : Answer C) (e : EventIn log (Advance n) r) → (p : Progress C) × (r ≡ Shown p) × Shows (under j (acts_at e)) s n (steps_so_far e.before) p
    -- in one search a cost that is shown never rises
    pub falling : (n k : ℕ) (p q : Progress C) (before middle after : List (Event C)) → OnlyAdvances middle →
        log ≡ before ++ (record { call = Advance n; answer = Shown p } ∷ (middle ++ (record { call = Advance k; answer = Shown q } ∷ after))) →
        CostsAtMost s q.held p.held
    -- nor does its settled sheet cost more than one that was shown
    pub ending : (n : ℕ) (p : Progress C) (answer : Option (Sheet × C)) (before middle after : List (Event C)) → OnlyAdvances middle →
        log ≡ before ++ (record { call = Advance n; answer = Shown p } ∷ (middle ++ (record { call = Settle; answer = Final answer } ∷ after))) →
        CostsAtMost s answer p.held
    -- of two settlings, where every act that stands at the one also stands at the other, the other costs no less
    pub more_acts : (x y : Option (Sheet × C)) (e : EventIn log Settle (Final x)) (f : EventIn log Settle (Final y)) →
        Included (acts_at e) (acts_at f) → CostsAtMost s x y

  -- such a log was added to what stood before
  pub record Conducted (room : ℕ) (calls : List Call) (before after : List (Event C)) : Type 0 where
    pub events : List (Event C)
    pub added : after ≡ before ++ events
    pub kept : Kept room calls events
