use Rattle.std.proofs.Common.{◌≡◌, ℕ, ◌<◌, ◌||◌, ◌==◌, drop, nat_lt}
use Rattle.std.specs.List.{list_all, list_any}
use Rattle.sheets.specs.Sheets.{width, has}
use Rattle.workshop.proofs.marks.sheet_of.Given as goal

-- what the marks of the rest make of those before it
abbrev pub invariant-loop-mark : goal.invariant-loop-mark
invariant-loop-mark l = record {
  below : list_all (λ m. nat_lt m l.fn.count) (drop l.mark-index l.marks) ≡ list_all (λ m. nat_lt m l.fn.count) l.marks;
  listed : (i : ℕ) → i < width → (has l.sheet i || list_any (λ m. i == m) (drop l.mark-index l.marks)) ≡ list_any (λ m. i == m) l.marks;
}
