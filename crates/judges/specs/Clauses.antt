-- The printer's list as a judge.
use Rattle.std.specs.Prelude.{◌≡◌, ℕ, ◌<◌, Bool, true, false, not, ◌||◌, List, length, slice_index_or}
use Rattle.sheets.specs.declared.literals.Literal.{Literal}
use Rattle.std.specs.List.{list_all, list_any}
use Rattle.sheets.specs.Sheets.{Sheet, Count, MarksBelow, within_count}
use Rattle.sheets.specs.Literals.{held, holds, in_some}
use Rattle.sheets.specs.Judging.{Judging}
use Rattle.rulefile.specs.Model.{FileModel}

-- each clause has a literal that holds
abbrev pub kept : List (List Literal) → Sheet → Bool
kept clauses z = list_all (list_any (holds z)) clauses

-- n is the lowest number of a clause that does not hold in z; d is what a list gives beyond its end, and as n and k are
-- within, any will do
pub record FirstBrokenClause (clauses : List (List Literal)) (z : Sheet) (n : ℕ) : Type 0 where
  pub within : n < length clauses
  pub fails : (d : List Literal) → list_any (holds z) (slice_index_or clauses n d) ≡ false
  pub before : (k : ℕ) → k < n → (d : List Literal) → list_any (holds z) (slice_index_or clauses k d) ≡ true

-- by the present marks p and the absent marks a: a present mark is not below the count, or a clause has no literal that
-- holds in any sheet within
abbrev pub list_dead : Count → List (List Literal) → Sheet → Sheet → Bool
list_dead count clauses p a = not (within_count count p) || not (list_all (list_any (held (in_some p a))) clauses)

-- the printer's list of a file, as a judge
abbrev pub list_of : FileModel → Judging
list_of f = record {
  count = f.count;
  allows = λ z. MarksBelow f.count z × (kept f.clauses z ≡ true);
  dead = list_dead f.count f.clauses;
}
