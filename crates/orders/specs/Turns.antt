-- One call on an order: what it answers, and where it leaves the order.
use Rattle.std.specs.Prelude.{◌≡◌, true, false, List, Some, None, Option}
use Rattle.sheets.specs.Judging.{Judging}
use Rattle.sheets.specs.Scaling.{Scaling}
use Rattle.orders.specs.declared.acts.Act.{Act}
use Rattle.orders.specs.declared.calls.Call.{Call}
use Rattle.orders.specs.declared.calls.Progress.{Progress}
use Rattle.orders.specs.declared.calls.Answer.{Answer}
use Rattle.orders.specs.declared.calls.Answer.TheVariants.{Shown, Final}
use Rattle.orders.specs.Search.{Search}
use Rattle.orders.specs.declared.stage.Order.{Order}
use Rattle.orders.specs.declared.stage.Order.TheVariants.{Marking, Seeking, Settled}
use Rattle.orders.specs.Acts.{under}
use Rattle.orders.specs.Searches.{start, Ended, priced}
use Rattle.orders.specs.Best.{Best}
use Rattle.orders.specs.Calls.{Advanced, ShowsCheapest}
use Rattle.orders.specs.Stages.{Stage, marking, seeking, settled, same_stage, Effect, adds, takes_off, begins, takes_steps, ends, moves, row}
use Rattle.orders.specs.Logs.{after_call, ByDocket}
use Rattle.orders.specs.Models.{acts_of}

-- the stage of an order, the acts that stand, and its search; where the order does not seek: `start`
pub record State : Type 0 where
  pub stage : Stage
  pub acts : List Act
  pub search : Search

module _ {C : Type 0} (j : Judging) (s : Scaling C) where
  -- what a call that does this makes of the search of an order at t, and what it says of it
  abbrev pub SearchTurn : State → Effect → Answer C → State → Type 0
  SearchTurn t (adds a) r u = Unit {0}
  SearchTurn t takes_off r u = Unit {0}
  SearchTurn t begins r u = u.search ≡ start
  SearchTurn t (takes_steps n) r u = (p : Progress C) × (r ≡ Shown p) × Advanced (under j t.acts) s n t.search p u.search × ShowsCheapest (under j t.acts) s p
  SearchTurn t ends r u = (last : Search) × (r ≡ Final (priced s last.held)) × Ended (under j t.acts) s t.search last × Best (under j t.acts) s (priced s last.held)
  SearchTurn t moves r u = Unit {0}

  -- the stage of t has the call c, which is answered r and leads to u
  pub record Turn (t : State) (c : Call) (r : Answer C) (u : State) : Type 0 where
    pub from : same_stage t.stage (row c).from ≡ true
    pub to : u.stage ≡ (row c).to
    pub acts : u.acts ≡ after_call j.count t.acts c
    pub decided : ByDocket j.count t.acts c r
    pub searches : SearchTurn t (row c).effect r u

-- ---- the orders of the code

-- C, j and s are what the type of an order takes of its judge and its scale

-- the stage of the order, its acts and its search
abbrev pub state_of : {J S C : Type 0} {j : _} {s : _} → Order J S C j s → State
state_of (Marking m) = record { stage = marking; acts = acts_of m.acts; search = start }
state_of (Seeking m) = record { stage = seeking; acts = acts_of m.marking.acts; search = m.search }
state_of (Settled m) = record { stage = settled; acts = acts_of m.marking.acts; search = start }

-- its judge, below the acts
abbrev pub judge_of : {J S C : Type 0} {j : _} {s : _} → Order J S C j s → J
judge_of (Marking m) = m.acts.judge
judge_of (Seeking m) = m.marking.acts.judge
judge_of (Settled m) = m.marking.acts.judge

-- its scale
abbrev pub scale_of : {J S C : Type 0} {j : _} {s : _} → Order J S C j s → S
scale_of (Marking m) = m.scale
scale_of (Seeking m) = m.marking.scale
scale_of (Settled m) = m.marking.scale

module _ {J S C : Type 0} {j : _} {s : _} (judging : J → Judging) (scaling : S → Scaling C) where
  -- the call leads from one order to the next, over the same judge and scale
  pub record Turned (order : Order J S C j s) (c : Call) (next : Order J S C j s) (r : Answer C) : Type 0 where
    pub turn : Turn (judging (judge_of order)) (scaling (scale_of order)) (state_of order) c r (state_of next)
    pub judge : judge_of next ≡ judge_of order
    pub scale : scale_of next ≡ scale_of order

  -- so it does, or the stage of the order does not have the call
  abbrev pub CallAnswered : Order J S C j s → Call → Option (Order J S C j s × Answer C) → Type 0
  CallAnswered order c None = same_stage (state_of order).stage (row c).from ≡ false
  CallAnswered order c (Some next) = Turned order c next.0 next.1
