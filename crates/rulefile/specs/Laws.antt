-- What every accepted file keeps, in the words of the format.
use Rattle.std.specs.Prelude.{◌≡◌, ℕ, ◌+◌, ◌^◌, ◌<◌, ◌≤◌, cond, List, [], ◌∷◌, ◌++◌, map, length, Ok, ◌==◌, ◌≢◌}
use Rattle.std.specs.List.{flat_map, list_any, AllByRecursion}
use Rattle.sheets.specs.Sheets.{Count, width, MarksBelow}
use Rattle.sheets.specs.declared.literals.Literal.{Literal}
use Rattle.rulefile.specs.declared.constraints.Element.{Element}
use Rattle.rulefile.specs.declared.records.Kind.TheVariants.{Head, Rule, Clause, Wish, Act, TaggedWish}
use Rattle.rulefile.specs.Numbers.{kind_number}
use Rattle.rulefile.specs.Ranges.{most_bytes, most_length, most_of_kind}
use Rattle.rulefile.specs.Model.{ConstraintModel, RuleModel, WishModel, FileModel}
use Rattle.rulefile.specs.Lists.{Listed, Heads, Rules, Clauses, Wishes, Acts, Item}
use Rattle.rulefile.specs.Parser.{Parser, took, little}
use Rattle.rulefile.specs.Format.{head_body, rule_body, clause_body, wish_body, act_body, kind_of}

-- the bytes of a record: those of its length, of its kind, and its body
pub record RecordBytes : Type 0 where
  pub size : List ℕ
  pub kind : List ℕ
  pub body : List ℕ

-- its bytes in the file
abbrev pub bytes_of : RecordBytes → List ℕ
bytes_of r = r.size ++ (r.kind ++ r.body)

-- four length bytes and two kind bytes; the length counts kind and body, and is at most `most_length`
pub record Framed (r : RecordBytes) : Type 0 where
  pub four : length r.size ≡ 4
  pub two : length r.kind ≡ 2
  pub counts : little r.size ≡ length r.kind + length r.body
  pub most : little r.size ≤ most_length

-- the lengths of records, each with the four bytes that say it
abbrev pub lengths : List RecordBytes → ℕ
lengths [] = 0
lengths (r ∷ rs) = 4 + little r.size + lengths rs

-- the records whose kind has one of the numbers, in file order
abbrev pub of_kinds : List ℕ → List RecordBytes → List RecordBytes
of_kinds ks [] = []
of_kinds ks (r ∷ rs) = cond (list_any (λ k. little r.kind == k) ks) (r ∷ of_kinds ks rs) (of_kinds ks rs)

-- there are as many records as xs, and the parser, by the number of the kind, reads the body of the n-th, to its last byte,
-- as the n-th of xs
abbrev pub Say : {A : Type 0} → (ℕ → Parser A) → List RecordBytes → List A → Type 0
Say p rs xs = map (λ r. p (little r.kind) r.body) rs ≡ map (λ x. took x []) xs

-- every mark is below n
abbrev pub LiteralsBelow : Count → List Literal → Type 0
LiteralsBelow n = AllByRecursion (λ (l : Literal). l.mark < n)

-- every mark of an element is below n
abbrev pub ConstraintBelow : Count → ConstraintModel → Type 0
ConstraintBelow n k = AllByRecursion (λ (e : Element). e.literal.mark < n) k.elements

-- every mark of the head and of the body is below n
abbrev pub RuleBelow : Count → RuleModel → Type 0
RuleBelow n r = ConstraintBelow n r.head × AllByRecursion (ConstraintBelow n) r.body

-- what is kept of an item, by its list: its marks are below n; of the marks of acts nothing is said
abbrev pub ItemBelow : (l : Listed) → Count → Item l → Type 0
ItemBelow Heads n x = ⊥
ItemBelow Rules n r = RuleBelow n r
ItemBelow Clauses n k = LiteralsBelow n k
ItemBelow Wishes n w = LiteralsBelow n w.literals
ItemBelow Acts n a = Unit {0}

-- the limits of a file: the count is from 1 to the width, the marks of the house sheet, of rules, clauses and wishes are
-- below it, and there are at most `most_of_kind` of a kind, of wishes of both kinds together; of the marks of acts nothing is
-- said
pub record Fits (f : FileModel) : Type 0 where
  pub some : 1 ≤ f.count
  pub few : f.count ≤ width
  pub house : f.house < 2 ^ f.count
  pub rules : AllByRecursion (RuleBelow f.count) f.rules
  pub clauses : AllByRecursion (LiteralsBelow f.count) f.clauses
  pub wishes : AllByRecursion (λ (w : WishModel). LiteralsBelow f.count w.literals) f.wishes
  pub few_rules : length f.rules ≤ most_of_kind
  pub few_clauses : length f.clauses ≤ most_of_kind
  pub few_wishes : length f.wishes ≤ most_of_kind
  pub few_acts : length f.acts ≤ most_of_kind

-- the bytes are a file that holds f
pub record Accepted (bytes : List ℕ) (f : FileModel) : Type 0 where
  -- the file is a sequence of records, and their lengths add up to it
  pub head : RecordBytes
  pub later : List RecordBytes
  pub sequence : bytes ≡ flat_map bytes_of (head ∷ later)
  pub framed : AllByRecursion Framed (head ∷ later)
  pub adds_up : length bytes ≡ lengths (head ∷ later)
  pub short : length bytes ≤ most_bytes
  -- the first record is the head, and no other is
  pub first : little head.kind ≡ kind_number Head
  pub only : AllByRecursion (λ r. little r.kind ≢ kind_number Head) later
  -- each record says its part, and the parts of a kind come in file order; so do wishes of both kinds together
  pub says : head_body head.body ≡ took (f.count, f.house) []
  pub rules : Say (λ _. rule_body f.count) (of_kinds (kind_number Rule ∷ []) later) f.rules
  pub clauses : Say (λ _. clause_body f.count) (of_kinds (kind_number Clause ∷ []) later) f.clauses
  pub wishes : Say (λ k. wish_body (k == kind_number TaggedWish) f.count) (of_kinds (kind_number Wish ∷ kind_number TaggedWish ∷ []) later) f.wishes
  pub acts : Say (λ _. act_body f.count) (of_kinds (kind_number Act ∷ []) later) f.acts
  pub kinds : map (λ r. kind_of (little r.kind)) later ≡ map Ok f.kinds
  -- each number and mark keeps its limit
  pub fits : Fits f
  pub house : MarksBelow f.count f.house
