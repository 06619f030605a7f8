-- The weak constraints that wishes are, as Lierler has them in "An Abstract View on Optimizations in Propositional Frameworks":
-- a wish without a tag is one by itself, and the wishes of a group are one together.
use Rattle.std.specs.Prelude.{◌≡◌, ℕ, Bool, true, false, not, ◌&&◌, List, [], ◌∷◌, ◌++◌, map, take, length, ℤ, vec_items, None, Some, Option, ◌==◌}
use Rattle.std.specs.List.{filter, filter_map, AllZip}
use Rattle.std.specs.Ordering.{int_eq}
use Rattle.sheets.specs.declared.literals.Literal.{Literal}
use Rattle.sheets.specs.declared.literal_sets.LiteralSet.{LiteralSet}
use Rattle.sheets.specs.LiteralSets.{Stands}
use Rattle.rulefile.specs.declared.wishes.Key.{Key}
use Rattle.rulefile.specs.declared.weak_constraints.Single.{Single}
use Rattle.rulefile.specs.declared.weak_constraints.Group.{Group}
use Rattle.rulefile.specs.Model.{WishModel}

-- A weak constraint costs its weight at its level where it holds: where all literals of at least one of its members do.
pub record WeakModel : Type 0 where
  pub level : ℕ
  pub weight : ℤ
  pub members : List (List Literal)

-- ---- groups

-- the key of a wish at a level and of a weight, with the tag if it has one
abbrev pub keyed : ℕ → ℤ → Option ℕ → Option Key
keyed level weight None = None
keyed level weight (Some t) = Some (record { level = level; weight = weight; tag = t })

-- what the wishes of a group share: level, weight and tag; a wish without a tag has none
abbrev pub key_of : WishModel → Option Key
key_of w = keyed w.level w.weight w.tag

-- the two keys are one
abbrev pub same_key : Key → Key → Bool
same_key j k = j.level == k.level && (int_eq j.weight k.weight && j.tag == k.tag)

-- there is a key, and it is k
abbrev pub is_key : Key → Option Key → Bool
is_key k None = false
is_key k (Some j) = same_key j k

-- the wish is in the group of the key k
abbrev pub has_key : Key → WishModel → Bool
has_key k w = is_key k (key_of w)

-- there is a key, and the wish is in its group
abbrev pub in_group : Option Key → WishModel → Bool
in_group None w = false
in_group (Some k) w = has_key k w

-- the wishes are in one group
abbrev pub same_group : WishModel → WishModel → Bool
same_group v w = in_group (key_of v) w

-- each of the keys once, in the order in which they first stand
abbrev pub different : List Key → List Key
different [] = []
different (k ∷ ks) = k ∷ filter (λ j. not (same_key j k)) (different ks)

-- the group of a key: its members are the wishes that have it, in file order
abbrev pub group : List WishModel → Key → WeakModel
group ws k = record { level = k.level; weight = k.weight; members = map (λ (w : WishModel). w.literals) (filter (has_key k) ws) }

-- the groups of wishes, in the order of their first records
abbrev pub groups_of : List WishModel → List WeakModel
groups_of ws = map (group ws) (different (filter_map key_of ws))

-- those of them that have a record among the first n
abbrev pub first_groups : ℕ → List WishModel → List WeakModel
first_groups n ws = map (group ws) (different (filter_map key_of (take n ws)))

-- ---- all of them

-- there is no tag
abbrev pub no_tag : Option ℕ → Bool
no_tag None = true
no_tag (Some t) = false

-- the wish has no tag
abbrev pub is_untagged : WishModel → Bool
is_untagged w = no_tag w.tag

-- a wish by itself, as a weak constraint with one member
abbrev pub alone : WishModel → WeakModel
alone w = record { level = w.level; weight = w.weight; members = w.literals ∷ [] }

-- the wishes without a tag, each by itself, in file order
abbrev pub untagged_of : List WishModel → List WeakModel
untagged_of ws = map alone (filter is_untagged ws)

-- the weak constraints of wishes: those without a tag, each by itself, and the groups
abbrev pub weak_constraints_of : List WishModel → List WeakModel
weak_constraints_of ws = untagged_of ws ++ groups_of ws

-- ---- as the program holds them

-- it has one member
abbrev pub is_single : WeakModel → Bool
is_single c = length c.members == 1

-- it has more
abbrev pub is_larger : WeakModel → Bool
is_larger c = not (is_single c)

-- those with one member: wishes without a tag, and wishes that are a group of their own
abbrev pub singles_of : List WishModel → List WeakModel
singles_of ws = filter is_single (weak_constraints_of ws)

-- those with more
abbrev pub larger_of : List WishModel → List WeakModel
larger_of ws = filter is_larger (weak_constraints_of ws)

-- the set stands for the literals
abbrev pub IsSetOf : LiteralSet → List Literal → Type 0
IsSetOf s ls = Stands s.plain s.nots ls

-- a level, a weight, and a set for each member are those of the weak constraint
abbrev pub HasParts : ℕ → ℤ → List LiteralSet → WeakModel → Type 0
HasParts level weight sets m = (level ≡ m.level) × (weight ≡ m.weight) × AllZip IsSetOf sets m.members

-- a single is the weak constraint
abbrev pub IsSingle : Single → WeakModel → Type 0
IsSingle s m = HasParts s.level s.weight (s.literals ∷ []) m

-- a group is the weak constraint
abbrev pub IsGroup : Group → WeakModel → Type 0
IsGroup g m = HasParts g.level g.weight (g.first ∷ vec_items g.others) m
