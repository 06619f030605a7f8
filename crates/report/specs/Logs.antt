-- The text of a log of the calls on an order.
use Rattle.std.specs.Prelude.{◌≡◌, ℕ, List, [], ◌∷◌, ◌++◌, map, Some, None, Option}
use Rattle.std.specs.List.{flat_map}
use Rattle.sheets.specs.Sheets.{Sheet, Count}
use Rattle.sheets.specs.Judging.{Judging}
use Rattle.sheets.specs.Scaling.{Scaling}
use Rattle.rulefile.specs.declared.records.Act.{Act}
use Rattle.scales.specs.declared.cost.LevelCost.{LevelCost}
use Rattle.scales.specs.Wishes.{top, down_from, cost_at}
use Rattle.orders.specs.declared.acts.Act.{Act as Standing}
use Rattle.orders.specs.declared.calls.Call.{Call}
use Rattle.orders.specs.declared.calls.Call.TheVariants.{Seek, Settle}
use Rattle.orders.specs.declared.calls.Answer.{Answer}
use Rattle.orders.specs.declared.calls.Answer.TheVariants.{Stands, Refused, Moved, Shown, Final}
use Rattle.orders.specs.declared.calls.Event.{Event}
use Rattle.orders.specs.Acts.{under}
use Rattle.orders.specs.Best.{Best}
use Rattle.orders.specs.Logs.{docket}
use Rattle.ceilings.specs.CutOff.{CutOff}
use Rattle.report.specs.Lines.{call_of, act_line, act_lines, sheet_line, no_sheet_line}

-- the calls of a report: the acts of the file, and then a search to its end
abbrev pub calls_for : List Act → List Call
calls_for acts = map call_of acts ++ (Seek ∷ Settle ∷ [])

-- the line of a settled sheet with its cost, or of no sheet
abbrev pub final_text : Option (Sheet × (LevelCost × ℕ)) → List ℕ
final_text None = no_sheet_line
final_text (Some a) = sheet_line a.0 (down_from top (cost_at a.1.0.levels)) a.1.1

-- the text of an order by the count n after the acts: a line for each act, and that of an answer of which, with the acts that
-- then stand, `Holds` is said
pub record IsTextOf (n : Count) (Holds : List Standing → Option (Sheet × (LevelCost × ℕ)) → Type 0) (acts : List Act) (text : List ℕ) : Type 0 where
  pub answer : Option (Sheet × (LevelCost × ℕ))
  pub holds : Holds (docket n (map call_of acts)) answer
  pub lines : text ≡ act_lines n [] acts ++ final_text answer

-- the text of an order over the judge and the scale: its answer is the cheapest sheet that keeps the acts, or no sheet
abbrev pub IsOrderText : Judging → Scaling (LevelCost × ℕ) → List Act → List ℕ → Type 0
IsOrderText j s = IsTextOf j.count (λ standing. Best (under j standing) s)

-- the text of an order over the judge with a ceiling: its answer is that over the judge below, cut off by the ceiling
abbrev pub IsTextBelow : Judging → Scaling (LevelCost × ℕ) → LevelCost × ℕ → List Act → List ℕ → Type 0
IsTextBelow j s ceiling = IsTextOf j.count (CutOff j s ceiling)

-- the line of an answer; nothing is said of a call that leads to another stage, or advances
abbrev pub answer_text : Answer (LevelCost × ℕ) → List ℕ
answer_text (Stands n) = act_line None
answer_text (Refused why) = act_line (Some why)
answer_text Moved = []
answer_text (Shown p) = []
answer_text (Final answer) = final_text answer

-- the lines of the answers of a log
unfoldable pub log_text : List (Event (LevelCost × ℕ)) → List ℕ
log_text log = flat_map (λ e. answer_text e.answer) log
