-- What the reader promises.
use Rattle.std.specs.Prelude.{◌≡◌, ℕ, ◌+◌, ◌≤◌, List, length, take, drop, IfOk, Ok, Result, Option, None, Some}
use Rattle.std.specs.Io.KnownBytes.{Consumes}
use Rattle.rulefile.specs.declared.refusals.ReadError.{ReadError}
use Rattle.rulefile.specs.declared.files.RuleFile.{RuleFile}
use Rattle.rulefile.specs.Ranges.{most_bytes}
use Rattle.rulefile.specs.Model.{FileModel}
use Rattle.rulefile.specs.Format.{decode}
use Rattle.rulefile.specs.Answers.{file_of, Reads}
use Rattle.rulefile.specs.Laws.{Accepted}

-- what holds of the reader's answer r to a file of these bytes
pub record Reading (bytes : List ℕ) (r : Result RuleFile ReadError) : Type 0 where
  -- the answer is what the bytes mean: the file, or the refusal and its offset
  pub meaning : Reads (decode bytes) r
  -- a file is accepted only where it keeps the laws of the format
  pub laws : IfOk r (λ f. Accepted bytes (file_of f))
  -- and no file that keeps them is refused: one that holds f is read as f
  pub complete : (f : FileModel) → Accepted bytes f → Reads (Ok f) r

-- the first n bytes mean what the whole does, however long that is
abbrev pub Enough : ℕ → Type 0
Enough n = (bytes : List ℕ) → decode (take n bytes) ≡ decode bytes

-- and no fewer bytes do
abbrev pub Fewest : ℕ → Type 0
Fewest n = (m : ℕ) → Enough m → n ≤ m

-- how many bytes of an input are read: one more than a file can have
abbrev pub input_bytes : ℕ
input_bytes = most_bytes + 1

-- a reader has left what comes after the first n of the bytes that it had left, where these are known; bytes that are known
-- stay so
abbrev pub LeavesAfter : ℕ → Option (List ℕ) → Option (List ℕ) → Type 0
LeavesAfter n None new = Unit {0}
LeavesAfter n (Some all) None = ⊥
LeavesAfter n (Some all) (Some rest) = rest ≡ drop n all

-- a reader gave n bytes at most
abbrev pub GivesAtMost : ℕ → Option (List ℕ) → Option (List ℕ) → Type 0
GivesAtMost n old new = (given : List ℕ) × (length given ≤ n) × Consumes old new given
