-- The sheet of given marks.
use Rattle.std.specs.Prelude.{◌≡◌, ◌<◌, true, List, nat_lt, ◌==◌}
use Rattle.std.specs.List.{list_all, list_any}
use Rattle.sheets.specs.Sheets.{Mark, Sheet, Count, width, has}

-- the marks are all below the count, and those of the sheet z are the ones that are listed
pub record IsSheetOf (count : Count) (marks : List Mark) (z : Sheet) : Type 0 where
  pub below : list_all (λ m. nat_lt m count) marks ≡ true
  pub listed : (i : Mark) → i < width → has z i ≡ list_any (λ m. i == m) marks
