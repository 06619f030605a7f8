-- What else is said of the definitions.
use Rattle.std.specs.Prelude.{◌≡◌, List, Decides}
use Rattle.sheets.specs.declared.literals.Literal.{Literal}
use Rattle.sheets.specs.Sheets.{Sheet, Part, Within}
use Rattle.sheets.specs.Literals.{held, Holds, in_every, in_some}
use Rattle.rulefile.specs.Model.{RuleModel}
use Rattle.judges.specs.declared.verdicts.Verdict.{Verdict}
use Rattle.judges.specs.Programs.{Horn, reduct, Closure, AnswerSet}
use Rattle.judges.specs.Verdicts.{Says}
use Rattle.judges.specs.Books.{lawful}

-- a Horn program has at most one closure, each reduct has one, the test finds the answer sets, and of a sheet at most one
-- verdict is said
pub record ClosuresStand : Type 0 where
  pub one : (program : List Horn) (s t : Sheet) → Closure program s → Closure program t → s ≡ t
  pub some : (program : List RuleModel) (z : Sheet) → (s : Sheet) × Closure (reduct z program) s
  pub decides : (program : List RuleModel) (z : Sheet) → Decides (lawful program z) (AnswerSet program z)
  pub verdict : (program : List RuleModel) (z : Sheet) (v w : Verdict) → Says program z v → Says program z w → v ≡ w

-- of a part-sheet by its present marks p and its absent marks a: the least sum counts the literals that hold in every sheet
-- within, and the greatest those that hold in some
pub record SumsStand : Type 0 where
  pub every : (p a : Sheet) (l : Literal) → Part p a → Decides (held (in_every p a) l) ((z : Sheet) → Within p a z → Holds z l)
  pub some : (p a : Sheet) (l : Literal) → Part p a → Decides (held (in_some p a) l) ((z : Sheet) × Within p a z × Holds z l)
