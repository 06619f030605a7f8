use Rattle.std.proofs.Common.{◌≡◌, ℕ, ◌+◌, ◌-◌, ◌<◌, List, pos, ◌+ℤ◌, length, get_or, drop}
use Rattle.std.specs.List.{AllZip}
use Rattle.rulefile.specs.WeakConstraints.{WeakModel}
use Rattle.scales.specs.Wishes.{weak_floor, sum_at, Bounded}
use Rattle.scales.proofs.wishes.add_floors.Given as goal

-- what is left of a level adds up to the rest, and each weak constraint adds a number of 16 bits
abbrev pub invariant-loop-constraint : goal.invariant-loop-constraint
invariant-loop-constraint g l =
    (length l.sums ≡ 8)
    × ((k : ℕ) → Bounded k l.initial.sums → Bounded (k + l.constraint-index) l.sums)
    × ((ms : List WeakModel) → AllZip g.C.WeakConstraint.is_model l.constraints ms → (n : ℕ) → n < 8
    → get_or l.sums n (pos 0) +ℤ sum_at (weak_floor l.part.present l.part.absent) (drop l.constraint-index ms) (8 - n) ≡ get_or l.initial.sums n (pos 0) +ℤ sum_at (weak_floor l.part.present l.part.absent) ms (8 - n))
