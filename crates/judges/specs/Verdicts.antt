-- What a verdict says of a sheet.
use Rattle.std.specs.Prelude.{◌≡◌, ℕ, ◌<◌, true, false, List, length, Ok, Err, Result, slice_index_or}
use Rattle.sheets.specs.Sheets.{Mark, Sheet, has, MarksBelow}
use Rattle.rulefile.specs.Model.{RuleModel, FileModel}
use Rattle.judges.specs.declared.verdicts.Verdict.{Verdict}
use Rattle.judges.specs.declared.verdicts.Verdict.TheVariants.{Lawful, Broken, Ungrounded}
use Rattle.judges.specs.declared.verdicts.Refusal.{Refusal}
use Rattle.judges.specs.declared.verdicts.Refusal.TheVariants.{MarkRange}
use Rattle.judges.specs.declared.answers.VerdictError.{VerdictError}
use Rattle.judges.specs.declared.answers.VerdictError.TheVariants.{Refused, Memory}
use Rattle.judges.specs.Programs.{rule_holds, Satisfies, reduct, Closure, AnswerSet}

-- n is the lowest number of a rule that does not hold in z; d is what a list gives beyond its end, and as n and k are
-- within, any will do
pub record FirstBroken (program : List RuleModel) (z : Sheet) (n : ℕ) : Type 0 where
  pub within : n < length program
  pub fails : (d : RuleModel) → rule_holds z (slice_index_or program n d) ≡ false
  pub before : (k : ℕ) → k < n → (d : RuleModel) → rule_holds z (slice_index_or program k d) ≡ true

-- m is the lowest mark of y that z lacks
pub record FirstMissing (y z : Sheet) (m : Mark) : Type 0 where
  pub there : has y m ≡ true
  pub outside : has z m ≡ false
  pub before : (i : Mark) → i < m → has y i ≡ true → has z i ≡ true

-- all rules hold, and m is the lowest mark of z outside the closure of its reduct
pub record FirstUngrounded (program : List RuleModel) (z : Sheet) (m : Mark) : Type 0 where
  pub satisfies : Satisfies z program
  -- the closure,
  pub closure : Sheet
  -- and that it is
  pub closes : Closure (reduct z program) closure
  pub first : FirstMissing z closure m

-- what each verdict says of the sheet z
abbrev pub Says : List RuleModel → Sheet → Verdict → Type 0
Says program z Lawful = AnswerSet program z
Says program z (Broken n) = FirstBroken program z n
Says program z (Ungrounded m) = FirstUngrounded program z m

-- the answer on the sheet z by the rules of a file: it is refused exactly where a mark of z is not below the count, and
-- else a verdict is given exactly where what it says is so
pub record Judged (f : FileModel) (z : Sheet) (r : Result Verdict Refusal) : Type 0 where
  -- it is refused only where a mark is too great,
  pub refused : r ≡ Err MarkRange → MarksBelow f.count z → ⊥
  -- and wherever one is
  pub refuses : (MarksBelow f.count z → ⊥) → r ≡ Err MarkRange
  -- a verdict that is given is true,
  pub says : (v : Verdict) → r ≡ Ok v → Says f.rules z v
  -- and one that is true is given
  pub said : (v : Verdict) → MarksBelow f.count z → Says f.rules z v → r ≡ Ok v

-- the same where memory may be wanting; nothing is said then
abbrev pub BytesJudged : FileModel → Sheet → Result Verdict VerdictError → Type 0
BytesJudged f z (Ok v) = Judged f z (Ok v)
BytesJudged f z (Err (Refused why)) = Judged f z (Err why)
BytesJudged f z (Err Memory) = Unit {0}
