use Rattle.std.proofs.Common.{◌≡◌, ℕ, ◌^◌, ◌<◌, ◌||◌, eqb, ap, ◌∙◌, arith}
use lib.Bits.{bit_or}
use Rattle.std.proofs.lemmas.Nat.{one_shl, or_comm}
use Rattle.sheets.specs.Sheets.{width, has}
use Rattle.sheets.specs.laws.Bits.{has_or, has_one}
use Rattle.sheets.proofs.marks.with_mark.Goals as goal

-- the mark's bit added to a word
added : (z m i : ℕ) → has (bit_or z (2 ^ m)) i ≡ (eqb i m || has z i)
added z m i =
    ap (λ q. has q i) (or_comm z (2 ^ m)) ∙ has_or (2 ^ m) z i ∙ ap (λ b. b || has z i) (has_one m i)

pub returns-then-mark-lt-WIDTH-clause-marks : goal.returns-then-mark-lt-WIDTH-clause-marks
returns-then-mark-lt-WIDTH-clause-marks c i lt =
    let low : c.args.mark < width = omega arith in
    ap (λ q. has (bit_or c.args.sheet q) i) (one_shl c.args.mark width low) ∙ added c.args.sheet c.args.mark i
