-- What the code holds, in the words of the definitions.
use Rattle.std.specs.Prelude.{◌≡◌, ℕ, ◌-◌, List, vec_len, vec_capacity, Result, Vec}
use Rattle.sheets.specs.Sheets.{Count}
use Rattle.sheets.specs.Judging.{Judging}
use Rattle.orders.specs.declared.acts.Act.{Act}
use Rattle.orders.specs.declared.acts.Refusal.{Refusal}
use Rattle.orders.specs.declared.layer.Acts.{Acts}
use Rattle.orders.specs.Acts.{under}
use Rattle.orders.specs.Dockets.{refused_act, undo_refused, after_act, after_undo, returned}

-- the acts that stand
abbrev pub acts_of : {J : Type 0} → Acts J → List Act
acts_of a = a.docket.acts

-- the count of the judge below
abbrev pub count_of : {J : Type 0} → (J → Judging) → Acts J → Count
count_of judging a = (judging a.judge).count

-- a pin, bar or strike was called: it is refused by the first refusal that applies, or else added at the end
pub record Added {J : Type 0} (judging : J → Judging) (before : Acts J) (a : Act) (r : Result ℕ Refusal) (after : Acts J) : Type 0 where
  pub answer : r ≡ returned (refused_act (count_of judging before) (acts_of before) a) (acts_of after)
  pub acts : acts_of after ≡ after_act (count_of judging before) (acts_of before) a
  pub judge : after.judge ≡ before.judge

-- an undo was called: it is refused where no act stands, or else takes the last one off
pub record Undone {J : Type 0} (before : Acts J) (r : Result ℕ Refusal) (after : Acts J) : Type 0 where
  pub answer : r ≡ returned (undo_refused (acts_of before)) (acts_of after)
  pub acts : acts_of after ≡ after_undo (acts_of before)
  pub judge : after.judge ≡ before.judge

-- the judge below held to the acts that stand
abbrev pub held_to : {J : Type 0} → (J → Judging) → Acts J → Judging
held_to judging a = under (judging a.judge) (acts_of a)

-- how many more items the reserved memory takes
abbrev pub room_of : {X Z : Type 0} → Vec X Z → ℕ
room_of v = vec_capacity v - vec_len v
