-- What a file holds, as lists: the values of the program without the memory that they take.
use Rattle.std.specs.Prelude.{ℕ, List, map, ℤ, vec_items, Option}
use Rattle.sheets.specs.Sheets.{Sheet, Count}
use Rattle.sheets.specs.declared.literals.Literal.{Literal}
use Rattle.rulefile.specs.declared.constraints.Element.{Element}
use Rattle.rulefile.specs.declared.constraints.Constraint.{Constraint}
use Rattle.rulefile.specs.declared.records.Kind.{Kind}
use Rattle.rulefile.specs.declared.records.Rule.{Rule}
use Rattle.rulefile.specs.declared.records.Clause.{Clause}
use Rattle.rulefile.specs.declared.records.Act.{Act}
use Rattle.rulefile.specs.declared.wishes.Wish.{Wish}

-- the low bound, the high bound if there is one, and the elements in file order
pub record ConstraintModel : Type 0 where
  pub low : ℕ
  pub high : Option ℕ
  pub elements : List Element

-- the head constraint, and the body constraints in file order
pub record RuleModel : Type 0 where
  pub head : ConstraintModel
  pub body : List ConstraintModel

-- the weight that the wish costs at its level where all its literals hold, and the tag, if it has one, of its group
pub record WishModel : Type 0 where
  pub level : ℕ
  pub tag : Option ℕ
  pub weight : ℤ
  pub literals : List Literal

-- count and house sheet; the rules, clauses, wishes of both kinds and acts in file order; and the kinds of all later records in file order
pub record FileModel : Type 0 where
  pub count : Count
  pub house : Sheet
  pub rules : List RuleModel
  pub clauses : List (List Literal)
  pub wishes : List WishModel
  pub acts : List Act
  pub kinds : List Kind

-- ---- the model of each value
-- a constraint, without its list's memory
abbrev pub constraint_of : Constraint → ConstraintModel
constraint_of k = record { low = k.low; high = k.high; elements = vec_items k.elements }

-- a rule
abbrev pub rule_of : Rule → RuleModel
rule_of r = record { head = constraint_of r.head; body = map constraint_of (vec_items r.body) }

-- a clause: its literals
abbrev pub clause_of : Clause → List Literal
clause_of k = vec_items k.literals

-- a wish
abbrev pub wish_of : Wish → WishModel
wish_of w = record { level = w.level; tag = w.tag; weight = w.weight; literals = vec_items w.literals }

-- a file, from its count, its house sheet and its lists
abbrev pub model_of : Count → Sheet → List Rule → List Clause → List Wish → List Act → List Kind → FileModel
model_of n house rules clauses wishes acts kinds = record {
  count = n;
  house = house;
  rules = map rule_of rules;
  clauses = map clause_of clauses;
  wishes = map wish_of wishes;
  acts = acts;
  kinds = kinds;
}
