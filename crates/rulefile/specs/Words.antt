-- What is printed of a refusal, of a bad file, and of a file that was not read.
use Rattle.std.specs.Prelude.{ℕ, List, ◌++◌, codes, decimal}
use Rattle.rulefile.specs.declared.refusals.Refusal.{Refusal}
use Rattle.rulefile.specs.declared.refusals.Refusal.TheVariants.{FileTooLong, RecordCut, LengthRange, LengthPastEnd, UnknownKind, HeadMisplaced, TooManyOfKind, BodyLength, OutOfRange, MarkRange}
use Rattle.rulefile.specs.declared.refusals.BadFile.{BadFile}
use Rattle.rulefile.specs.declared.refusals.ReadError.{ReadError}
use Rattle.rulefile.specs.declared.refusals.ReadError.TheVariants.{Refused, Memory}
use Rattle.rulefile.specs.declared.records.Kind.TheVariants.{Head, Wish, Act, TaggedWish}
use Rattle.rulefile.specs.Ranges.{most_bytes, least_length, most_length, most_of_kind}
use Rattle.rulefile.specs.Numbers.{number, kind_number}

-- what a refusal means, for the person who repairs the file
abbrev pub refusal_words : Refusal → List ℕ
refusal_words FileTooLong = codes "the file is longer than " ++ (decimal most_bytes ++ codes " bytes")
refusal_words RecordCut = codes "fewer than four bytes are left for a record's length, or the file is empty"
refusal_words LengthRange = codes "a record's length is not from " ++ (decimal least_length ++ (codes " to " ++ decimal most_length))
refusal_words LengthPastEnd = codes "a record's length is more than the bytes left after it"
refusal_words UnknownKind = codes "a record's kind is not from " ++ (decimal (kind_number Head) ++ (codes " to " ++ (decimal (kind_number Act) ++ (codes " and not " ++ decimal (kind_number TaggedWish)))))
refusal_words HeadMisplaced = codes "the first record is not a head, or a later one is"
refusal_words TooManyOfKind =
    codes "there are more than " ++ (decimal most_of_kind ++ (codes " records of this kind; " ++ (decimal (kind_number Wish) ++ (codes " and " ++ (decimal (kind_number TaggedWish) ++ codes " count as one")))))
refusal_words BodyLength = codes "a record's body ends before a field, or goes on after its last"
refusal_words OutOfRange = codes "a number is outside its range"
refusal_words MarkRange = codes "a mark of an element or of the house sheet is not below the count"

-- the number of the refusal, and the offset
abbrev pub bad_file_words : BadFile → List ℕ
bad_file_words bad = codes "refused " ++ (decimal (number bad.why) ++ (codes " at " ++ decimal bad.at))

-- a bad file as it is printed itself, or that memory is wanting
abbrev pub read_error_words : ReadError → List ℕ
read_error_words (Refused bad) = bad_file_words bad
read_error_words (Memory e) = codes "no memory to read the file"
