-- The limits that every file keeps, as tests.
use Rattle.std.specs.Prelude.{Bool, true, ◌&&◌, List, length, nat_le, nat_lt}
use Rattle.std.specs.List.{list_all}
use Rattle.sheets.specs.Sheets.{Count, width, within_count}
use Rattle.sheets.specs.declared.literals.Literal.{Literal}
use Rattle.rulefile.specs.declared.constraints.Element.{Element}
use Rattle.rulefile.specs.Ranges.{most_of_kind}
use Rattle.rulefile.specs.Lists.{Listed, Heads, Rules, Clauses, Wishes, Acts, all_lists, Item, list_of}
use Rattle.rulefile.specs.Model.{ConstraintModel, RuleModel, FileModel}

-- the marks of all literals are below n
abbrev pub literals_below : Count → List Literal → Bool
literals_below n = list_all (λ (l : Literal). nat_lt l.mark n)

-- the marks of all elements are below n
abbrev pub constraint_below : Count → ConstraintModel → Bool
constraint_below n k = list_all (λ (e : Element). nat_lt e.literal.mark n) k.elements

-- the marks of the head and of the body are below n
abbrev pub rule_below : Count → RuleModel → Bool
rule_below n r = constraint_below n r.head && list_all (constraint_below n) r.body

-- the marks of an item of the list are below n; those of acts are not tested
abbrev pub item_below : (l : Listed) → Count → Item l → Bool
item_below Heads n x = absurd x
item_below Rules n r = rule_below n r
item_below Clauses n k = literals_below n k
item_below Wishes n w = literals_below n w.literals
item_below Acts n a = true

-- the list has such items, and at most `most_of_kind`
abbrev pub is_list_fit : FileModel → Listed → Bool
is_list_fit f l = list_all (item_below l f.count) (list_of l f) && nat_le (length (list_of l f)) most_of_kind

-- the count is from 1 to the width, each mark of the house sheet is below it, and each list is fit
unfoldable pub is_fit : FileModel → Bool
is_fit f = nat_le 1 f.count && (nat_le f.count width && (within_count f.count f.house && list_all (is_list_fit f) all_lists))
