use Rattle.std.proofs.Common.{◌≡◌, ℕ, ◌≤◌, length}
use Rattle.rulefile.specs.Answers.{draft_of}
use Rattle.rulefile.specs.Format.{decode, records}
use Rattle.rulefile.proofs.reader.read.Given as goal

abbrev pub invariant-loop-rest : goal.invariant-loop-rest
invariant-loop-rest l = (length l.rest ≤ l.size) × ((n : ℕ) × (length l.rest ≤ n) × (decode l.bytes ≡ records n l.size (draft_of l.draft) l.rest))

abbrev pub decreases-loop-rest : goal.decreases-loop-rest
decreases-loop-rest l = length l.rest
