-- The docket: which calls on the acts are refused, and the acts that then stand.
use Rattle.std.specs.Prelude.{ℕ, Bool, false, if◌then◌else◌, not, List, [], ◌∷◌, ◌++◌, length, Some, None, Ok, Err, Option, Result, nat_le}
use Rattle.std.specs.List.{list_any}
use Rattle.sheets.specs.Sheets.{Count, within_count}
use Rattle.orders.specs.declared.acts.Act.{Act}
use Rattle.orders.specs.declared.acts.Act.TheVariants.{Pin, Bar, Strike}
use Rattle.orders.specs.declared.acts.Refusal.{Refusal}
use Rattle.orders.specs.declared.acts.Refusal.TheVariants.{MarkRange, MarkTaken, SheetStruck, DocketFull, DocketEmpty}
use Rattle.orders.specs.Acts.{most_acts, pins_or_bars, strikes}

-- a mark of the act is not below the count n
abbrev pub beyond : Count → Act → Bool
beyond n (Pin mark) = nat_le n mark
beyond n (Bar mark) = nat_le n mark
beyond n (Strike sheet) = not (within_count n sheet)

-- the mark is already pinned or barred
abbrev pub mark_named : List Act → Act → Bool
mark_named acts (Pin mark) = list_any (pins_or_bars mark) acts
mark_named acts (Bar mark) = list_any (pins_or_bars mark) acts
mark_named acts (Strike sheet) = false

-- the sheet is already struck
abbrev pub sheet_struck : List Act → Act → Bool
sheet_struck acts (Pin mark) = false
sheet_struck acts (Bar mark) = false
sheet_struck acts (Strike sheet) = list_any (strikes sheet) acts

-- the refusal applies to a pin, bar or strike, by the count n and the acts that stand
abbrev pub applies : Count → List Act → Act → Refusal → Bool
applies n acts a MarkRange = beyond n a
applies n acts a MarkTaken = mark_named acts a
applies n acts a SheetStruck = sheet_struck acts a
applies n acts a DocketFull = nat_le most_acts (length acts)
applies n acts a DocketEmpty = false

-- the first that passes the test
abbrev pub first_that : (Refusal → Bool) → List Refusal → Option Refusal
first_that test [] = None
first_that test (r ∷ rest) = if test r then Some r else first_that test rest

-- by what a pin, bar or strike is refused
abbrev pub refused_act : Count → List Act → Act → Option Refusal
refused_act n acts a = first_that (applies n acts a) (MarkRange ∷ MarkTaken ∷ SheetStruck ∷ DocketFull ∷ [])

-- by what an undo is refused
abbrev pub undo_refused : List Act → Option Refusal
undo_refused [] = Some DocketEmpty
undo_refused (a ∷ acts) = None

-- the acts stay as they are where the call is refused
abbrev pub unless : Option Refusal → List Act → List Act → List Act
unless (Some why) acts more = acts
unless None acts more = more

-- the acts after a pin, bar or strike: unless it is refused, it is added at the end
abbrev pub after_act : Count → List Act → Act → List Act
after_act n acts a = unless (refused_act n acts a) acts (acts ++ (a ∷ []))

-- the acts after an undo: the last is taken off
abbrev pub after_undo : List Act → List Act
after_undo [] = []
after_undo (a ∷ []) = []
after_undo (a ∷ (b ∷ rest)) = a ∷ after_undo (b ∷ rest)

-- what a call on the acts returns: how many then stand, or by what it is refused
abbrev pub returned : Option Refusal → List Act → Result ℕ Refusal
returned (Some why) after = Err why
returned None after = Ok (length after)
