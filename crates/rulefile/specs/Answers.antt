-- How the answers of the program's functions stand for those of the parsers.
use Rattle.std.specs.Prelude.{◌≡◌, ℕ, ◌<◌, List, [], ◌∷◌, ◌++◌, length, Ok, Err, vec_items, Result}
use Rattle.rulefile.specs.declared.refusals.Refusal.{Refusal}
use Rattle.rulefile.specs.declared.refusals.Fault.{Fault}
use Rattle.rulefile.specs.declared.refusals.Fault.TheVariants.{Bad, Memory}
use Rattle.rulefile.specs.declared.refusals.BadFile.{BadFile}
use Rattle.rulefile.specs.declared.refusals.ReadError.{ReadError}
use Rattle.rulefile.specs.declared.refusals.ReadError.TheVariants.{Refused, Memory as NoMemory}
use Rattle.rulefile.specs.declared.files.RuleFile.{RuleFile}
use Rattle.rulefile.specs.declared.frame.Record.{Record}
use Rattle.rulefile.specs.declared.draft.Draft.{Draft}
use Rattle.rulefile.specs.Model.{FileModel, model_of}
use Rattle.rulefile.specs.Parser.{Parse, took, fails, Parser, ◌>>=◌, ◌>>◌, pure, parsed}
use Rattle.rulefile.specs.Format.{room_at}

-- what a read file holds
abbrev pub file_of : RuleFile → FileModel
file_of f = model_of f.count f.house (vec_items f.rules) (vec_items f.clauses) (vec_items f.wishes) (vec_items f.acts) (vec_items f.kinds)

-- what a file holds that is not yet read to its end
abbrev pub draft_of : Draft → FileModel
draft_of f = model_of f.count f.house (vec_items f.rules) (vec_items f.clauses) (vec_items f.wishes) (vec_items f.acts) (vec_items f.kinds)

-- a fault, where the parser's answer is p. Nothing is said where memory failed.
abbrev pub Faults : {A : Type 0} → Parse A → Fault → Type 0
Faults p (Bad why) = p ≡ fails why
Faults p (Memory e) = Unit {0}

-- the answer of a function that needs memory: m takes what it made to its model
abbrev pub Parses : {A B : Type 0} → (B → A) → Parse A → Result B Fault → List ℕ → Type 0
Parses m p (Ok x) rest = p ≡ took (m x) rest
Parses m p (Err f) rest = Faults p f

-- a record that is cut off, with the bytes after it
abbrev pub parsed_record : Result Record Refusal → Parse (ℕ × List ℕ)
parsed_record (Ok r) = took (r.kind, r.body.now) r.after.now
parsed_record (Err why) = fails why

-- one more is read by p, and put behind xs
abbrev pub one_more : {A : Type 0} → List A → Parser A → Parser (List A)
one_more xs p = do
  parsed (room_at (length xs))
  x ← p
  pure (xs ++ x ∷ [])

-- the bytes after a record are fewer than n
abbrev pub Shorter : ℕ → Result Record Refusal → Type 0
Shorter n (Ok r) = length r.after.now < n
Shorter n (Err why) = Unit {0}

-- a fault in the record at an offset
abbrev pub located_at : Fault → ℕ → ReadError
located_at (Bad cause) offset = Refused (record { why = cause; at = offset })
located_at (Memory e) offset = NoMemory e

-- the answer of the reader, where the file means d. Nothing is said where memory failed.
abbrev pub Reads : Result FileModel BadFile → Result RuleFile ReadError → Type 0
Reads d (Ok f) = d ≡ Ok (file_of f)
Reads d (Err (Refused b)) = d ≡ Err b
Reads d (Err (NoMemory e)) = Unit {0}
