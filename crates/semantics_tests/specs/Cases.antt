-- Small programs, and what is said of their sheets.
use Rattle.std.specs.Prelude.{◌≡◌, ℕ, ◌+◌, ◌^◌, true, false, List, [], ◌∷◌, pos, Some, None}
use Rattle.rulefile.specs.declared.constraints.Element.{Element}
use Rattle.sheets.specs.Scaling.{Scaling, first_then}
use Rattle.rulefile.specs.Model.{ConstraintModel, RuleModel, WishModel, FileModel}
use Rattle.rulefile.specs.Format.{head_alone}
use Rattle.judges.specs.declared.verdicts.Verdict.TheVariants.{Lawful, Broken, Ungrounded}
use Rattle.judges.specs.Programs.{AnswerSet}
use Rattle.judges.specs.Verdicts.{Says}
use Rattle.scales.specs.Wishes.{level_cost, level_floor, Dominates}
use Rattle.scales.specs.declared.cost.LevelCost.{LevelCost}
use Rattle.scales.specs.Levels.{levels_of, cheaper}
use Rattle.scales.specs.Distances.{distance_of}
use Rattle.judges.specs.Books.{book_of}
use Rattle.orders.specs.declared.search.Search.{Search}
use Rattle.orders.specs.Acts.{under}
use Rattle.orders.specs.Searches.{start, Steps}

-- the sheet of these marks, each named once
abbrev pub sheet : List ℕ → ℕ
sheet [] = 0
sheet (m ∷ ms) = 2 ^ m + sheet ms

infixl 90 ◌is◌
infixl 10 ◌if◌
-- the element mark=weight
abbrev pub ◌is◌ : ℕ → ℕ → Element
◌is◌ m w = record { literal = record { mark = m; negated = false }; weight = w }

-- the element not mark=weight
abbrev pub not_is : ℕ → ℕ → Element
not_is m w = record { literal = record { mark = m; negated = true }; weight = w }

-- n ≤ elements
abbrev pub at_least : ℕ → List Element → ConstraintModel
at_least n es = record { low = n; high = None; elements = es }

-- n ≤ elements ≤ m
abbrev pub between : ℕ → List Element → ℕ → ConstraintModel
between n es m = record { low = n; high = Some m; elements = es }

-- the rule with this head and this body
abbrev pub ◌if◌ : ConstraintModel → List ConstraintModel → RuleModel
◌if◌ k ks = record { head = k; body = ks }

-- 0 ≤ {0=1, 1=1} ≤ 1
abbrev pub at_most_one : List RuleModel
at_most_one = (between 0 (0 is 1 ∷ 1 is 1 ∷ []) 1 if []) ∷ []

-- 1 ≤ {0=1} where 1 ≤ {1=1}, and 1 ≤ {1=1} where 1 ≤ {0=1}
abbrev pub each_other : List RuleModel
each_other =
    (at_least 1 (0 is 1 ∷ []) if (at_least 1 (1 is 1 ∷ []) ∷ []))
    ∷ (at_least 1 (1 is 1 ∷ []) if (at_least 1 (0 is 1 ∷ []) ∷ []))
    ∷ []

-- 1 ≤ {0=1} where {0=1} ≤ 0
abbrev pub if_missing : List RuleModel
if_missing = (at_least 1 (0 is 1 ∷ []) if (between 0 (0 is 1 ∷ []) 0 ∷ [])) ∷ []

-- 1 ≤ {0=1} where {not 0=1} ≤ 0
abbrev pub if_not_missing : List RuleModel
if_not_missing = (at_least 1 (0 is 1 ∷ []) if (between 0 (not_is 0 1 ∷ []) 0 ∷ [])) ∷ []

-- 0 ≤ {0=1, 1=1, 2=1}, and 1 ≤ {} where 4 ≤ {0=2, 1=2, 2=1}
abbrev pub budget : List RuleModel
budget =
    (at_least 0 (0 is 1 ∷ 1 is 1 ∷ 2 is 1 ∷ []) if [])
    ∷ (at_least 1 [] if (at_least 4 (0 is 2 ∷ 1 is 2 ∷ 2 is 1 ∷ []) ∷ []))
    ∷ []

-- weight 1 at level 2 where mark 0 is there, and weight 100 at level 1 where mark 1 is
abbrev pub two_levels : List WishModel
two_levels =
    record { level = 2; tag = None; weight = pos 1; literals = record { mark = 0; negated = false } ∷ [] }
    ∷ record { level = 1; tag = None; weight = pos 100; literals = record { mark = 1; negated = false } ∷ [] }
    ∷ []

-- three wishes of level 1 and weight 3: one where mark 0 is there and one where mark 1 is, which share tag 17, and the first again
-- with tag 18
abbrev pub shared : List WishModel
shared =
    record { level = 1; tag = Some 17; weight = pos 3; literals = record { mark = 0; negated = false } ∷ [] }
    ∷ record { level = 1; tag = Some 17; weight = pos 3; literals = record { mark = 1; negated = false } ∷ [] }
    ∷ record { level = 1; tag = Some 18; weight = pos 3; literals = record { mark = 0; negated = false } ∷ [] }
    ∷ []

-- a head alone with count 1 and an empty house sheet
abbrev pub alone : FileModel
alone = head_alone (1, 0)

-- what its sheets cost, by levels and then distance
abbrev pub engine_scale : Scaling (LevelCost × ℕ)
engine_scale = first_then (levels_of alone.wishes) (distance_of alone.house)

-- the end of a search that holds {}
abbrev pub settled_empty : Search
settled_empty = record { depth = 0; present = 0; held = Some (sheet []); finished = true }

-- the worked cases of docs/SEMANTICS.md
pub record CasesStand : Type 0 where
  -- with no rules, {} is lawful and {0} ungrounded
  pub none_empty : Says [] (sheet []) Lawful
  pub none_zero : Says [] (sheet (0 ∷ [])) (Ungrounded 0)
  -- of two marks at most one
  pub one_of_two : Says at_most_one (sheet (0 ∷ [])) Lawful
  pub both_of_two : Says at_most_one (sheet (0 ∷ 1 ∷ [])) (Broken 0)
  -- two marks that support only each other
  pub support_empty : Says each_other (sheet []) Lawful
  pub support_both : Says each_other (sheet (0 ∷ 1 ∷ [])) (Ungrounded 0)
  -- a mark that follows from its own absence: no sheet (a high bound is tested in the sheet, and not in the closure)
  pub missing_empty : Says if_missing (sheet []) (Broken 0)
  pub missing_zero : Says if_missing (sheet (0 ∷ [])) (Ungrounded 0)
  pub missing_none : (z : ℕ) → AnswerSet if_missing z → ⊥
  -- a mark that may be there or not
  pub not_missing_empty : Says if_not_missing (sheet []) Lawful
  pub not_missing_zero : Says if_not_missing (sheet (0 ∷ [])) Lawful
  -- weights of 4 or more are too many
  pub budget_kept : Says budget (sheet (0 ∷ 2 ∷ [])) Lawful
  pub budget_broken : Says budget (sheet (0 ∷ 1 ∷ [])) (Broken 1)
  -- weight 1 at level 2 costs more than 100 at level 1
  pub levels_apart : Dominates two_levels (sheet (1 ∷ [])) (sheet (0 ∷ []))
  pub levels_cheaper : cheaper two_levels (sheet (1 ∷ [])) (sheet (0 ∷ [])) ≡ true
  -- two wishes that share a tag cost once, and another tag costs besides
  pub shared_one : level_cost (sheet (1 ∷ [])) shared 1 ≡ pos 3
  pub shared_both : level_cost (sheet (0 ∷ 1 ∷ [])) shared 1 ≡ pos 6
  -- a floor goes member by member: with mark 0 absent and mark 1 open, nothing is sure
  pub shared_floor : level_floor (sheet []) (sheet (0 ∷ [])) shared 1 ≡ pos 0
  -- count 1, no rules, no acts: a search takes three steps, and settles on {}
  pub search_steps : Steps (under (book_of alone) []) engine_scale start 3 settled_empty
