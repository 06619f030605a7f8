-- What a press prints that takes no sheet which the wishes make dearer than its sample, and what the call promises. The sample
-- is the house sheet of the file.
use Rattle.std.specs.Prelude.{◌≡◌, ℕ, ◌≤◌, if◌then◌else◌, List, [], ◌++◌, length, Ok, Some, None, Option, Result}
use Rattle.sheets.specs.Sheets.{Sheet}
use Rattle.rulefile.specs.Model.{FileModel}
use Rattle.scales.specs.Levels.{cheaper}
use Rattle.orders.specs.Best.{Best}
use Rattle.orders.specs.Searches.{priced}
use Rattle.report.specs.declared.refusals.ReportError.{ReportError}
use Rattle.report.specs.Lines.{act_lines, answer_line}
use Rattle.report.specs.Reports.{scale_of, left_open, IsReport, least_buffer, WritesLines}

-- the sheet, or no sheet where the wishes make it dearer than the house sheet
abbrev pub not_dearer : FileModel → Option Sheet → Option Sheet
not_dearer f None = None
not_dearer f (Some z) = if cheaper f.wishes f.house z then None else Some z

-- the lines are those of a press on a file that means this: the lines of its report, but with no sheet where the wishes make
-- the sheet of the report dearer than the house sheet
pub record IsPressReport (f : FileModel) (lines : List ℕ) : Type 0 where
  -- the sheet of the report, if there is one
  pub held : Option Sheet
  pub best : Best (left_open f) (scale_of f) (priced (scale_of f) held)
  pub printed : lines ≡ act_lines f.count [] f.acts ++ answer_line f (not_dearer f held)

-- the lines are those of a press on the file, and no longer than the shortest buffer that is accepted
pub record PressReport (f : FileModel) (lines : List ℕ) : Type 0 where
  pub meaning : IsPressReport f lines
  pub short : length lines ≤ least_buffer
  -- there are no others
  pub only : (other : List ℕ) → IsPressReport f other → other ≡ lines
  -- and the report on the file has the line of its own sheet in place of the last
  pub report : (other : List ℕ) → IsReport (Ok f) other → other ≡ act_lines f.count [] f.acts ++ answer_line f meaning.held

-- what the call answers, and what it leaves in the buffer
abbrev pub Pressed : FileModel → List ℕ → Result ℕ ReportError → List ℕ → Type 0
Pressed f = WritesLines (PressReport f)
