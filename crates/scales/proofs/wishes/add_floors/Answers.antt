use Rattle.std.proofs.Common.{◌+◌, ◌-◌, length, pos, ◌+ℤ◌, get_or, ◌∙◌, arith, w16, w32, SFits, rules}
use Rattle.std.proofs.lemmas.Int.{ints, to_z-of_z}
use Rattle.std.proofs.lemmas.List.{length-set}
use Rattle.std.proofs.lemmas.Slice.Zip.{AllZip-long}
use Rattle.rulefile.specs.Ranges.{most_of_kind}
use Rattle.scales.specs.Wishes.{weak_floor}
use Rattle.scales.proofs.Steps.{model_at, bounded_more, bounded_wider, parts_more, sum_none}
use Rattle.scales.proofs.wishes.add_floors.Goals as goal

pub overflow_add-sums : goal.overflow_add-sums
overflow_add-sums g c =
    let b = c.loop-constraint.invariant.1 most_of_kind c.requires.room c.from-place.result (omega (arith, c.from-place.ensures, c.level.ensures.low)) in
    let sum : SFits w32 (get_or c.loop-constraint.sums c.from-place.result (pos 0)) = omega (arith, ints, b.0, b.1, c.requires.few, c.loop-constraint-test.true) in
    let weight : SFits w32 c.from.result = search rules in
    simp (to_z-of_z, sum, weight) (omega (arith, ints, b.0, b.1, c.requires.few, c.loop-constraint-test.true))

pub loop-constraint-preserved : goal.loop-constraint-preserved
loop-constraint-preserved g c =
    let b = c.loop-constraint.invariant.1 most_of_kind c.requires.room c.from-place.result (omega (arith, c.from-place.ensures, c.level.ensures.low)) in
    let sum : SFits w32 (get_or c.loop-constraint.sums c.from-place.result (pos 0)) = omega (arith, ints, b.0, b.1, c.requires.few, c.loop-constraint-test.true) in
    let floor : SFits w16 c.weak_floor.result = search rules in
    let weight : SFits w16 c.from.result = omega (arith, ints, c.from.ensures, floor) in
    let weight-wide : SFits w32 c.from.result = omega (arith, ints) in
    let total : SFits w32 (get_or c.loop-constraint.sums c.from-place.result (pos 0) +ℤ c.from.result) = omega (arith, ints, b.0, b.1, c.requires.few, c.loop-constraint-test.true) in
    let i = c.loop-constraint.constraint-index in
    let long = c.loop-constraint.invariant.0 in
    let f = weak_floor c.args.part.present c.args.part.absent in
    simp (to_z-of_z, sum, weight-wide, total) (
      length-set c.loop-constraint.sums c.from-place.result _ ∙ long,
      λ k h.
          bounded_more c.loop-constraint.sums long c.from-place.result c.level.result c.from.result c.level.ensures.low c.level.ensures.high c.from-place.ensures
          (k + i) (k + (i + 1)) (omega arith) weight (c.loop-constraint.invariant.1 k h),
      λ ms h.
          let m = model_at g.C.WeakConstraint.is_model c.args.constraints.now ms i c.constraint-item.result h c.loop-constraint-test.true c.constraint-item.is in
          parts_more c.loop-constraint.sums long c.from-place.result c.level.result c.from.result c.level.ensures.low c.level.ensures.high c.from-place.ensures
          f c.args.sums.now ms i m.0 m.2 (c.level.ensures.value m.0 m.1) (c.from.ensures ∙ to_z-of_z w16 c.weak_floor.result floor ∙ c.weak_floor.ensures m.0 m.1) (c.loop-constraint.invariant.2 ms h),
    )

pub returns-clause-added : goal.returns-clause-added
returns-clause-added g c = λ ms h n lt.
    let f = weak_floor c.args.part.present c.args.part.absent in
    let long = AllZip-long g.C.WeakConstraint.is_model c.args.constraints.now ms h in
    let part = c.loop-constraint.invariant.2 ms h n lt in
    let none = sum_none f (8 - n) ms c.loop-constraint.constraint-index (omega (arith, long, c.loop-constraint-test.false)) in
    omega (arith, ints, part, none)

pub returns-clause-bounded : goal.returns-clause-bounded
returns-clause-bounded g c = λ k h.
    bounded_wider (k + c.loop-constraint.constraint-index) (k + length c.args.constraints.now) c.loop-constraint.sums (omega (arith, c.loop-constraint.auto.constraint-index-end)) (c.loop-constraint.invariant.1 k h)
