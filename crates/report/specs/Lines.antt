-- The lines of a report. Every line ends with byte 10, and numbers are decimal.
use Rattle.std.specs.Prelude.{ℕ, List, [], ◌∷◌, ◌++◌, ℤ, Some, None, codes, decimal, filter, Option}
use Rattle.std.specs.List.{range_with_len, flat_map}
use Rattle.std.specs.Fmt.{signed_decimal}
use Rattle.sheets.specs.Sheets.{Sheet, width, has}
use Rattle.rulefile.specs.declared.refusals.BadFile.{BadFile}
use Rattle.rulefile.specs.declared.records.Act.{Act}
use Rattle.rulefile.specs.declared.records.Act.TheVariants.{Pin, Bar, Strike, Undo}
use Rattle.rulefile.specs.Model.{FileModel}
use Rattle.rulefile.specs.Words.{bad_file_words}
use Rattle.scales.specs.Wishes.{level_cost, top, down_from}
use Rattle.scales.specs.Distances.{distance_of}
use Rattle.orders.specs.declared.acts.Act.{Act as Standing}
use Rattle.orders.specs.declared.acts.Act.TheVariants as act
use Rattle.orders.specs.declared.acts.Refusal.{Refusal}
use Rattle.orders.specs.declared.calls.Call.{Call}
use Rattle.orders.specs.declared.calls.Call.TheVariants as call
use Rattle.orders.specs.Dockets.{refused_act, undo_refused}
use Rattle.orders.specs.Logs.{after_call}
use Rattle.orders.specs.Numbers as orders

-- the end of a line
abbrev pub line_end : List ℕ
line_end = 10 ∷ []

-- ---- a bad file

-- the refusal of a file, and where it applies, as `rulefile` prints it
unfoldable pub bad_file_line : BadFile → List ℕ
bad_file_line bad = bad_file_words bad ++ line_end

-- ---- acts

-- the line of an act that is not refused, or is
unfoldable pub act_line : Option Refusal → List ℕ
act_line None = codes "ok" ++ line_end
act_line (Some why) = codes "refused " ++ (decimal (orders.number why) ++ line_end)

-- the call that an act of a file is
abbrev pub call_of : Act → Call
call_of (Pin mark) = call.Pin mark
call_of (Bar mark) = call.Bar mark
call_of (Strike sheet) = call.Strike sheet
call_of Undo = call.Undo

-- by what it is refused, by the count n and the acts that stand
abbrev pub refused_by : ℕ → List Standing → Act → Option Refusal
refused_by n acts (Pin mark) = refused_act n acts (act.Pin mark)
refused_by n acts (Bar mark) = refused_act n acts (act.Bar mark)
refused_by n acts (Strike sheet) = refused_act n acts (act.Strike sheet)
refused_by n acts Undo = undo_refused acts

-- a line for each act, by the docket
abbrev pub act_lines : ℕ → List Standing → List Act → List ℕ
act_lines n acts [] = []
act_lines n acts (a ∷ rest) = act_line (refused_by n acts a) ++ act_lines n (after_call n acts (call_of a)) rest

-- ---- the sheet

-- each of the list, behind a space
unfoldable pub spaced : {A : Type 0} → (A → List ℕ) → List A → List ℕ
spaced text xs = flat_map (λ x. 32 ∷ text x) xs

-- the marks of the sheet, upward
unfoldable pub marks : ℕ → List ℕ
marks z = filter (has z) (range_with_len 0 width)

-- a sheet, its cost at the levels from the top down, and its distance
unfoldable pub sheet_line : ℕ → List ℤ → ℕ → List ℕ
sheet_line z levels distance =
    codes "sheet" ++ (spaced decimal (marks z) ++ (codes " cost" ++ (spaced signed_decimal levels ++ (codes " off " ++ (decimal distance ++ line_end)))))

-- the line where no sheet is settled on
unfoldable pub no_sheet_line : List ℕ
no_sheet_line = codes "no sheet" ++ line_end

-- the line of the sheet z with what the wishes of the file cost at each level, and its distance from the house sheet
abbrev pub answer_line : FileModel → Option Sheet → List ℕ
answer_line f None = no_sheet_line
answer_line f (Some z) = sheet_line z (down_from top (level_cost z f.wishes)) ((distance_of f.house).cost z)
