-- Programs with weight constraints: what holds in a sheet, the reduct, the deductive closure and the answer sets,
-- as Ferraris and Lifschitz define them in "Weight Constraints as Nested Expressions".
use Rattle.std.specs.Prelude.{◌≡◌, ℕ, ◌+◌, ◌-◌, Bool, true, cond, not, ◌&&◌, ◌||◌, List, [], ◌∷◌, map, Some, None, filter, Option, nat_le}
use Rattle.std.specs.List.{flat_map, AllByRecursion}
use Rattle.sheets.specs.declared.literals.Literal.{Literal}
use Rattle.std.specs.List.{list_all}
use Rattle.sheets.specs.Sheets.{Mark, Sheet, has, Subset}
use Rattle.sheets.specs.Literals.{holds}
use Rattle.rulefile.specs.declared.constraints.Element.{Element}
use Rattle.rulefile.specs.Model.{ConstraintModel, RuleModel}

-- ---- what holds in a sheet

-- the weights of the elements that a test picks, repeated ones too
abbrev pub weigh : (Literal → Bool) → List Element → ℕ
weigh p [] = 0
weigh p (e ∷ es) = cond (p e.literal) e.weight 0 + weigh p es

-- a sum is not greater than the high bound, if there is one
abbrev pub at_most : ℕ → Option ℕ → Bool
at_most n None = true
at_most n (Some high) = nat_le n high

-- the sum of what holds is not less than the low bound and not greater than the high one
abbrev pub satisfied : Sheet → ConstraintModel → Bool
satisfied z k = nat_le k.low (weigh (holds z) k.elements) && at_most (weigh (holds z) k.elements) k.high

-- the head is satisfied whenever the whole body is
abbrev pub rule_holds : Sheet → RuleModel → Bool
rule_holds z r = satisfied z r.head || not (list_all (satisfied z) r.body)

-- every rule of the program holds in the sheet z
abbrev pub Satisfies : Sheet → List RuleModel → Type 0
Satisfies z program = list_all (rule_holds z) program ≡ true

-- ---- the reduct

-- a low bound on plain elements
pub record Lower : Type 0 where
  pub bound : ℕ
  pub elements : List Element

-- a Horn rule: one mark, and what it follows from
pub record Horn : Type 0 where
  pub mark : Mark
  pub body : List Lower

-- without "not"
abbrev pub plain : Literal → Bool
plain l = not l.negated

-- the "not" elements are dropped, and the bound is lowered by the weights of those that hold in z;
-- as no sum is below 0, a bound that would be is 0
abbrev pub lowered : Sheet → ConstraintModel → Lower
lowered z k = record {
  bound = k.low - weigh (λ l. l.negated && holds z l) k.elements;
  elements = filter (λ e. plain e.literal) k.elements;
}

-- one Horn rule for each plain head element that holds in z, and none at all where a body sum is above its high bound in z
abbrev pub reduct_of_rule : Sheet → RuleModel → List Horn
reduct_of_rule z r =
    cond (list_all (λ k. at_most (weigh (holds z) k.elements) k.high) r.body)
    (map (λ e. record { mark = e.literal.mark; body = map (lowered z) r.body })
    (filter (λ e. plain e.literal && holds z e.literal) r.head.elements))
    []

-- the Horn rules of all rules, for the sheet z
abbrev pub reduct : Sheet → List RuleModel → List Horn
reduct z program = flat_map (reduct_of_rule z) program

-- ---- the deductive closure, and the answer sets

-- the elements with marks in the set s weigh the bound or more
abbrev pub reaches : Sheet → Lower → Bool
reaches s k = nat_le k.bound (weigh (holds s) k.elements)

-- the set s satisfies a Horn rule
abbrev pub Obeys : Sheet → Horn → Type 0
Obeys s h = list_all (reaches s) h.body ≡ true → has s h.mark ≡ true

-- s is the least set, by inclusion, that satisfies a Horn program
pub record Closure (program : List Horn) (s : Sheet) : Type 0 where
  pub obeys : AllByRecursion (Obeys s) program
  pub least : (t : Sheet) → AllByRecursion (Obeys t) program → Subset s t

-- z satisfies the program, and is the closure of its own reduct
pub record AnswerSet (program : List RuleModel) (z : Sheet) : Type 0 where
  pub satisfies : Satisfies z program
  pub grounded : Closure (reduct z program) z
