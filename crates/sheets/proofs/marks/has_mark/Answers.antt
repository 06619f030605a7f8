use Rattle.std.proofs.Common.{◌≡◌, ℕ, ◌/◌, ◌%◌, ◌^◌, ◌<◌, ◌≤◌, ◌&&◌, ◌==◌, nat_lt, sym, ap₂, ◌∙◌, ⊎_elim, arith}
use Rattle.std.proofs.lemmas.Bool.{le-ltb, lt-ltb, cases_lt, and_left}
use Rattle.sheets.specs.Sheets.{width, has}
use Rattle.sheets.specs.laws.Bits.{has_high}
use Rattle.sheets.proofs.marks.has_mark.Goals as goal

-- of a mark that there is, the place is the mark itself
there : (z m : ℕ) → m < width → (nat_lt m width && (z / 2 ^ (m % width) % 2 == 1)) ≡ has z m
unfolding has
there z m lt = ap₂ (λ b (k : ℕ). b && (z / 2 ^ k % 2 == 1)) (lt-ltb m width lt) (omega arith)

-- and no sheet has another
beyond : (z m : ℕ) → z < 2 ^ width → width ≤ m → (nat_lt m width && (z / 2 ^ (m % width) % 2 == 1)) ≡ has z m
beyond z m word from = and_left (nat_lt m width) (z / 2 ^ (m % width) % 2 == 1) (le-ltb m width from) ∙ sym (has_high width z m word from)

pub returns : goal.returns
returns c =
    let word : c.args.sheet < 2 ^ width = omega arith in
    ⊎_elim (there c.args.sheet c.args.mark) (beyond c.args.sheet c.args.mark word) (cases_lt c.args.mark width)
