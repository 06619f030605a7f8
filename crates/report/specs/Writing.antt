-- What a writer has written, one text behind another.
use Rattle.std.specs.Prelude.{◌≡◌, ℕ, ◌+◌, ◌≤◌, List, ◌++◌, length, take, drop}
use Rattle.std.specs.Borrow.{MutBor}
use Rattle.report.specs.declared.writing.Writer.{Writer}

-- the bytes that are written
abbrev pub written : Writer → List ℕ
written w = take w.len w.out.now

-- the bytes of the buffer behind them
abbrev pub behind : Writer → List ℕ
behind w = drop w.len w.out.now

-- the writer has this buffer, as it is, and nothing is written
pub record Starts (out : MutBor (List ℕ)) (w : Writer) : Type 0 where
  -- it is the same reference (`ghost_name` is its name in contracts)
  pub same_reference : w.out.ghost_name ≡ out.ghost_name
  pub bytes : w.out.now ≡ out.now
  pub none : w.len ≡ 0

-- the buffer has room for the text behind what is written
pub record HasRoom (w : Writer) (text : List ℕ) : Type 0 where
  pub room : w.len + length text ≤ length w.out.now

-- the text was written behind what was written; all other bytes stay
pub record Writes (old : Writer) (text : List ℕ) (new : Writer) : Type 0 where
  -- the writer has the same reference
  pub same_reference : new.out.ghost_name ≡ old.out.ghost_name
  pub same_length : length new.out.now ≡ length old.out.now
  pub len : new.len ≡ old.len + length text
  pub follows : written new ≡ written old ++ text
  pub others : behind new ≡ drop (length text) (behind old)
