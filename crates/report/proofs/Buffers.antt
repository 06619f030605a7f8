-- What stands in a buffer at whose front lines were written.
use Rattle.std.proofs.Common.{◌≡◌, ℕ, ◌≤◌, List, ◌++◌, length, take, drop, sym, ap, ◌∙◌, arith}
use lib.Seq.{take-append_seam}
use Rattle.report.specs.declared.writing.Writer.{Writer}
use Rattle.report.specs.Reports.{Written}
use Rattle.report.specs.Writing.{Writes}
use Rattle.report.proofs.Pieces.{writes_front}

pub lines_written : (Promised : List ℕ → Type 0) (before lines after : List ℕ) (n : ℕ) (w v : Writer) → w.len ≡ 0 → w.out.now ≡ before → 4096 ≤ length before
    → Promised lines → Writes w lines v → n ≡ v.len → after ≡ v.out.now → Written Promised before n after
lines_written Promised before lines after n w v none same room promised p len end =
    let many : length lines ≡ n = omega (arith, p.len) in
    record {
      room = room;
      lines = lines;
      promised = promised;
      many = sym many;
      buffer = end ∙ writes_front none same p ∙ ap (λ (k : ℕ). lines ++ drop k before) many;
    }

-- the lines are what stands before the rest
pub front : (lines rest after : List ℕ) (n : ℕ) → n ≡ length lines → after ≡ lines ++ rest → take n after ≡ lines
front lines rest after n many e = ap (take n) e ∙ ap (λ k. take k (lines ++ rest)) many ∙ take-append_seam lines rest
