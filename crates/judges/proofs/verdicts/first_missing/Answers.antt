use Rattle.std.proofs.Common.{◌≡◌, ℕ, ◌^◌, ◌<◌, ◌≤◌, Some, None, Option, MatchOption, true, false, ⊎_elim, arith, rules, tests}
use Rattle.std.proofs.lemmas.Iterator.{first_from_Range}
use Rattle.std.proofs.lemmas.Bool.{both_ways, cases_lt}
use Rattle.sheets.specs.Sheets.{width, has, Subset}
use Rattle.sheets.specs.laws.Bits.{has_high}
use Rattle.judges.specs.Verdicts.{FirstMissing}
use Rattle.judges.proofs.verdicts.first_missing.Goals as goal

-- mark i of y is missing from z
abbrev Missing : ℕ → ℕ → ℕ → Type 0
Missing y z i = (has y i ≡ true) × (has z i ≡ false)

abbrev Kept : ℕ → ℕ → ℕ → Type 0
Kept y z i = has y i ≡ true → has z i ≡ true

-- no mark below the width is missing, or this one and none before it
module _ (y z : ℕ) (word : y < 2 ^ width) where
  found : (r : Option ℕ) → MatchOption r ((k : ℕ) → 0 ≤ k → k < width → Kept y z k) (λ i. (0 ≤ i) × (i < width) × Missing y z i × ((k : ℕ) → 0 ≤ k → k < i → Kept y z k))
      → MatchOption r (Subset y z) (FirstMissing y z)
  found None none = λ i t. ⊎_elim (λ lt. none i (omega arith) lt t) (λ ge. absurd (both_ways (has y i) (has_high width y i word ge) t)) (cases_lt i width)
  found (Some i) some = record { there = some.2.0; outside = some.2.1; before = λ k lt. some.3 k (omega arith) lt }

pub returns : goal.returns
returns c =
    let word : c.args.sheet < 2 ^ width = omega arith in
    found c.args.sheet c.args.other word c.find.result
    (first_from_Range _ _ _ _ (Missing c.args.sheet c.args.other) (Kept c.args.sheet c.args.other) c.find.ensures.ran (λ x q k. search (rules, tests)) (λ x q k. search (rules, tests)))
