-- The numbers of refusals and of kinds.
use Rattle.std.specs.Prelude.{ℕ, List, [], ◌∷◌}
use Rattle.rulefile.specs.declared.refusals.Refusal.{Refusal}
use Rattle.rulefile.specs.declared.refusals.Refusal.TheVariants.{FileTooLong, RecordCut, LengthRange, LengthPastEnd, UnknownKind, HeadMisplaced, TooManyOfKind, BodyLength, OutOfRange, MarkRange}
use Rattle.rulefile.specs.declared.records.Kind.{Kind}
use Rattle.rulefile.specs.declared.records.Kind.TheVariants.{Head, Rule, Clause, Wish, Act, TaggedWish}

-- the number of each refusal of a file
abbrev pub number : Refusal → ℕ
number FileTooLong = 10
number RecordCut = 11
number LengthRange = 12
number LengthPastEnd = 13
number UnknownKind = 14
number HeadMisplaced = 15
number TooManyOfKind = 16
number BodyLength = 17
number OutOfRange = 18
number MarkRange = 19

-- the number of each kind of record
abbrev pub kind_number : Kind → ℕ
kind_number Head = 1
kind_number Rule = 2
kind_number Clause = 3
kind_number Wish = 4
kind_number Act = 5
kind_number TaggedWish = 7

-- all kinds, by their numbers
abbrev pub all_kinds : List Kind
all_kinds = Head ∷ Rule ∷ Clause ∷ Wish ∷ Act ∷ TaggedWish ∷ []
