use Rattle.std.proofs.Common.{◌≡◌, ℕ, false, List, map, sym, refl}
use Rattle.rulefile.specs.Model.{RuleModel, rule_of}
use Rattle.judges.specs.declared.verdicts.Verdict.{Verdict}
use Rattle.judges.specs.declared.verdicts.Verdict.TheVariants.{Lawful, Broken, Ungrounded}
use Rattle.judges.specs.Verdicts.{Says}
use Rattle.judges.specs.Books.{lawful}
use Rattle.judges.specs.laws.Grounds.{lawful_from, not_if_broken, not_if_ungrounded}
use Rattle.judges.proofs.book.is_lawful.Goals as goal

-- another verdict is said only of sheets that are not lawful
other : (program : List RuleModel) (z : ℕ) (v : Verdict) → Says program z v → (v ≡ Lawful → ⊥) → lawful program z ≡ false
other program z Lawful says not = absurd (not refl)
other program z (Broken n) says not = not_if_broken program z n says
other program z (Ungrounded m) says not = not_if_ungrounded program z m says

pub returns-in-Lawful : goal.returns-in-Lawful
returns-in-Lawful c = sym (lawful_from (map rule_of c.args.rules.now) c.args.sheet c.in-Lawful.ensures)

pub returns-in_default : goal.returns-in_default
returns-in_default c = sym (other (map rule_of c.args.rules.now) c.args.sheet _ c.rules_verdict.ensures c.in_default.not-Lawful)
