-- The book as a judge: the answer sets of the rules, and the part-sheets that it calls dead.
use Rattle.std.specs.Prelude.{ℕ, zero, suc, Bool, false, not, ◌&&◌, ◌||◌, List, nat_le, nat_lt}
use Rattle.std.specs.List.{list_all, list_any}
use Rattle.sheets.specs.Sheets.{Sheet, has, full}
use Rattle.sheets.specs.Literals.{held, in_every, in_some}
use Rattle.sheets.specs.Judging.{Judging}
use Rattle.rulefile.specs.Model.{ConstraintModel, RuleModel, FileModel}
use Rattle.judges.specs.Programs.{weigh, at_most, rule_holds, Horn, reduct, reaches, AnswerSet}

-- ---- lawful, as a test

-- the set s satisfies a Horn rule
abbrev pub obeys : Sheet → Horn → Bool
obeys s h = not (list_all (reaches s) h.body) || has s h.mark

-- a number below n passes the test
abbrev pub one_below : (ℕ → Bool) → ℕ → Bool
one_below test zero = false
one_below test (suc n) = test n || one_below test n

-- z satisfies the program and its own reduct, and no smaller word satisfies that reduct. A set with fewer marks is a
-- smaller word, so this is said of the answer sets alone.
unfoldable pub lawful : List RuleModel → Sheet → Bool
lawful program z =
    list_all (rule_holds z) program
    && (list_all (obeys z) (reduct z program) && not (one_below (λ s. list_all (obeys s) (reduct z program)) z))

-- ---- part-sheets, by their present marks p and their absent marks a

-- the weights of the elements that hold in every sheet within
abbrev pub least : Sheet → Sheet → ConstraintModel → ℕ
least p a k = weigh (held (in_every p a)) k.elements

-- the weights of the elements that hold in some sheet within
abbrev pub greatest : Sheet → Sheet → ConstraintModel → ℕ
greatest p a k = weigh (held (in_some p a)) k.elements

-- its sums show that the constraint holds in every sheet within
abbrev pub sure : Sheet → Sheet → ConstraintModel → Bool
sure p a k = nat_le k.low (least p a k) && at_most (greatest p a k) k.high

-- its sums show that it holds in none
abbrev pub hopeless : Sheet → Sheet → ConstraintModel → Bool
hopeless p a k = nat_lt (greatest p a k) k.low || not (at_most (least p a k) k.high)

-- the head is hopeless, and the whole body sure
abbrev pub dead_rule : Sheet → Sheet → RuleModel → Bool
dead_rule p a r = hopeless p a r.head && list_all (sure p a) r.body

-- a rule is dead, or the part-sheet is full and its sheet not lawful
abbrev pub book_dead : List RuleModel → Sheet → Sheet → Bool
book_dead program p a = list_any (dead_rule p a) program || (full p a && not (lawful program p))

-- the book of a file, as a judge
abbrev pub book_of : FileModel → Judging
book_of f = record { count = f.count; allows = AnswerSet f.rules; dead = book_dead f.rules }
