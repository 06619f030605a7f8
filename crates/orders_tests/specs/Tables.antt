-- A table of sheets as a judge.
use Rattle.std.specs.Prelude.{◌≡◌, Bool, true, not, ◌&&◌, List, ◌==◌, bit_and, nat_eq}
use Rattle.std.specs.List.{list_any}
use Rattle.sheets.specs.Sheets.{Sheet, Count}
use Rattle.sheets.specs.Judging.{Judging}

-- the sheet z has every present mark and no absent one
abbrev pub lies_within : Sheet → Sheet → Sheet → Bool
lies_within p a z = bit_and p z == p && bit_and a z == 0

-- allowed are the listed sheets, and dead is a part-sheet within which none of them lies
abbrev pub table_of : Count → List Sheet → Judging
table_of count listed = record {
  count = count;
  allows = λ z. list_any (nat_eq z) listed ≡ true;
  dead = λ p a. not (list_any (lies_within p a) listed);
}
