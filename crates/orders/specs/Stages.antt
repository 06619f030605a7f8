-- The stages of an order, and what each call is.
use Rattle.std.specs.Prelude.{ℕ, zero, suc, Bool, if◌then◌else◌, List, [], ◌∷◌, ◌==◌}
use Rattle.orders.specs.declared.acts.Act.{Act}
use Rattle.orders.specs.declared.acts.Act.TheVariants as act
use Rattle.orders.specs.declared.calls.Call.{Call}
use Rattle.orders.specs.declared.calls.Call.TheVariants.{Pin, Bar, Strike, Undo, Seek, Advance, Settle, Withdraw, Reopen}

-- where an order stands: its acts may change, its search goes on, or its search has ended
pub data Stage : Type 0 where
  marking : Stage
  seeking : Stage
  settled : Stage

-- each stage by a number of its own
abbrev pub number_of : Stage → ℕ
number_of marking = 0
number_of seeking = 1
number_of settled = 2

-- the two stages are the same
abbrev pub same_stage : Stage → Stage → Bool
same_stage a b = number_of a == number_of b

-- what a call does to the acts that stand and to the search
pub data Effect : Type 0 where
  -- the act is added at the end, unless it is refused
  adds : Act → Effect
  -- the last act is taken off, if one stands
  takes_off : Effect
  -- a search begins
  begins : Effect
  -- so many steps are taken, or those that remain if fewer
  takes_steps : ℕ → Effect
  -- the steps that remain are taken
  ends : Effect
  -- neither changes
  moves : Effect

-- what a call is: the stage that has it, the stage that it leads to, refused or not, and what it does
pub record Row : Type 0 where
  pub from : Stage
  pub to : Stage
  pub effect : Effect

abbrev pub row : Call → Row
row (Pin mark) = record { from = marking; to = marking; effect = adds (act.Pin mark) }
row (Bar mark) = record { from = marking; to = marking; effect = adds (act.Bar mark) }
row (Strike sheet) = record { from = marking; to = marking; effect = adds (act.Strike sheet) }
row Undo = record { from = marking; to = marking; effect = takes_off }
row Seek = record { from = marking; to = seeking; effect = begins }
row (Advance n) = record { from = seeking; to = seeking; effect = takes_steps n }
row Settle = record { from = seeking; to = settled; effect = ends }
row Withdraw = record { from = seeking; to = marking; effect = moves }
row Reopen = record { from = settled; to = marking; effect = moves }

-- how many of the calls, from the first on, their stages have
abbrev pub calls_had : Stage → List Call → ℕ
calls_had stage [] = zero
calls_had stage (c ∷ calls) = if same_stage stage (row c).from then suc (calls_had (row c).to calls) else zero
