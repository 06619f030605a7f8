-- The lists of a file: to which of them a record of a kind is put, what one of its items says, and the file with one more record.
use Rattle.std.specs.Prelude.{List, [], ◌∷◌, ◌++◌}
use Rattle.sheets.specs.declared.literals.Literal.{Literal}
use Rattle.rulefile.specs.declared.records.Act.{Act}
use Rattle.rulefile.specs.declared.records.Kind.{Kind}
use Rattle.rulefile.specs.declared.records.Kind.TheVariants.{Head, Rule, Clause, Wish, Act as ActKind, TaggedWish}
use Rattle.rulefile.specs.Model.{RuleModel, WishModel, FileModel}

-- the lists; that of heads is always empty, since none comes later
pub data Listed : Type 0 where
  Heads : Listed
  Rules : Listed
  Clauses : Listed
  Wishes : Listed
  Acts : Listed

-- all lists
abbrev pub all_lists : List Listed
all_lists = Heads ∷ Rules ∷ Clauses ∷ Wishes ∷ Acts ∷ []

-- the list to which a record of the kind is put: wishes of both kinds to one
abbrev pub list_for : Kind → Listed
list_for Head = Heads
list_for Rule = Rules
list_for Clause = Clauses
list_for Wish = Wishes
list_for ActKind = Acts
list_for TaggedWish = Wishes

-- what an item of the list says
abbrev pub Item : Listed → Type 0
Item Heads = ⊥
Item Rules = RuleModel
Item Clauses = List Literal
Item Wishes = WishModel
Item Acts = Act

-- the list in a file
abbrev pub list_of : (l : Listed) → FileModel → List (Item l)
list_of Heads f = []
list_of Rules f = f.rules
list_of Clauses f = f.clauses
list_of Wishes f = f.wishes
list_of Acts f = f.acts

-- the items of the list j, once one more of the list l is read: behind the others, where this is its list
abbrev pub longer : (j l : Listed) → Item l → List (Item j) → List (Item j)
longer Rules Rules x xs = xs ++ x ∷ []
longer Clauses Clauses x xs = xs ++ x ∷ []
longer Wishes Wishes x xs = xs ++ x ∷ []
longer Acts Acts x xs = xs ++ x ∷ []
longer j l x xs = xs

-- the file with one more record of the kind
abbrev pub with_one : (k : Kind) → FileModel → Item (list_for k) → FileModel
with_one k f x = record {
  count = f.count;
  house = f.house;
  rules = longer Rules (list_for k) x f.rules;
  clauses = longer Clauses (list_for k) x f.clauses;
  wishes = longer Wishes (list_for k) x f.wishes;
  acts = longer Acts (list_for k) x f.acts;
  kinds = f.kinds ++ k ∷ [];
}
