-- What the report on a file is, and what the call promises.
use Rattle.std.specs.Prelude.{◌≡◌, ℕ, ◌<◌, ◌≤◌, List, [], ◌++◌, map, length, drop, Ok, Err, Option, Result}
use Rattle.sheets.specs.Sheets.{Sheet}
use Rattle.sheets.specs.Judging.{Judging, both}
use Rattle.sheets.specs.Scaling.{Scaling, first_then}
use Rattle.rulefile.specs.declared.refusals.BadFile.{BadFile}
use Rattle.rulefile.specs.Model.{FileModel}
use Rattle.rulefile.specs.Format.{decode}
use Rattle.judges.specs.Books.{book_of}
use Rattle.judges.specs.Clauses.{list_of}
use Rattle.scales.specs.declared.cost.LevelCost.{LevelCost}
use Rattle.scales.specs.Levels.{levels_of}
use Rattle.scales.specs.Distances.{distance_of}
use Rattle.orders.specs.Acts.{under}
use Rattle.orders.specs.Best.{Best}
use Rattle.orders.specs.Logs.{docket}
use Rattle.orders.specs.Searches.{priced}
use Rattle.report.specs.declared.refusals.Refusal.TheVariants.{BufferSmall}
use Rattle.report.specs.declared.refusals.ReportError.{ReportError}
use Rattle.report.specs.declared.refusals.ReportError.TheVariants.{Refused, Memory}
use Rattle.report.specs.Lines.{bad_file_line, call_of, act_lines, answer_line}

-- both book and list
abbrev pub judge_of : FileModel → Judging
judge_of f = both (book_of f) (list_of f)

-- by levels, then distance
abbrev pub scale_of : FileModel → Scaling (LevelCost × ℕ)
scale_of f = first_then (levels_of f.wishes) (distance_of f.house)

-- the judge of the sheets that are left open: they are lawful, can be printed, and keep the acts that stand after those of
-- the file
abbrev pub left_open : FileModel → Judging
left_open f = under (judge_of f) (docket f.count (map call_of f.acts))

-- the lines are a report on a file that means this: for a bad file its refusal; for a good one the lines of its acts, and
-- that of the cheapest sheet, the earliest of several, or of no sheet where there is none
abbrev pub IsReport : Result FileModel BadFile → List ℕ → Type 0
IsReport (Err bad) lines = lines ≡ bad_file_line bad
IsReport (Ok f) lines =
    (held : Option Sheet) × Best (left_open f) (scale_of f) (priced (scale_of f) held) × (lines ≡ act_lines f.count [] f.acts ++ answer_line f held)

-- how many bytes a buffer has at least
abbrev pub least_buffer : ℕ
least_buffer = 4096

-- the lines are a report on the file, and no longer than the shortest buffer that is accepted
pub record ReportThatFits (file : Result FileModel BadFile) (lines : List ℕ) : Type 0 where
  pub meaning : IsReport file lines
  pub short : length lines ≤ least_buffer

-- the lines are the report on the bytes of a file
pub record Report (bytes lines : List ℕ) : Type 0 where
  pub fitting : ReportThatFits (decode bytes) lines
  -- there is one report on a file
  pub only : (other : List ℕ) → IsReport (decode bytes) other → other ≡ lines

-- lines of which this is promised stand at the front of the buffer, and the bytes after them are as they were
pub record Written (Promised : List ℕ → Type 0) (before : List ℕ) (n : ℕ) (after : List ℕ) : Type 0 where
  pub room : least_buffer ≤ length before
  pub lines : List ℕ
  pub promised : Promised lines
  pub many : n ≡ length lines
  pub buffer : after ≡ lines ++ drop n before

-- what a call that writes such lines answers, and what it leaves in the buffer
abbrev pub WritesLines : (List ℕ → Type 0) → List ℕ → Result ℕ ReportError → List ℕ → Type 0
WritesLines Promised before (Ok n) after = Written Promised before n after
WritesLines Promised before (Err (Refused BufferSmall)) after = (length before < least_buffer) × (after ≡ before)
WritesLines Promised before (Err Memory) after = (least_buffer ≤ length before) × (after ≡ before)

-- the same of the report on the bytes
abbrev pub Reported : List ℕ → List ℕ → Result ℕ ReportError → List ℕ → Type 0
Reported bytes = WritesLines (Report bytes)
