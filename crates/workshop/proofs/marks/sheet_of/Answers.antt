use Rattle.std.proofs.Common.{ℕ, ◌+◌, ◌==◌, rules, refl, ap, sym, ◌∙◌, ◌||◌, get_or, drop, arith, lt-ltb, le-ltb}
use Rattle.std.specs.List.{list_any}
use Rattle.sheets.specs.Sheets.{has}
use Rattle.sheets.specs.laws.Bits.{has_none}
use Rattle.workshop.proofs.Listed.{below_more, not_below, one_more, none_left_below, none_left}
use Rattle.workshop.proofs.marks.sheet_of.Goals as goal

pub returns-then-mark-count : goal.returns-then-mark-count
returns-then-mark-count c =
    sym c.loop-mark.invariant.below
    ∙ not_below c.args.marks.now c.loop-mark.mark-index (get_or c.args.marks.now c.loop-mark.mark-index 0) c.loop-mark-test.true (search rules) c.args.count (le-ltb _ _ c.if-mark-count.true)

pub loop-mark-preserved : goal.loop-mark-preserved
loop-mark-preserved c =
    let m : ℕ = get_or c.args.marks.now c.loop-mark.mark-index 0 in
    record {
      below =
          below_more c.args.marks.now c.loop-mark.mark-index m c.loop-mark-test.true (search rules) c.args.count (lt-ltb _ _ c.if-mark-count.false)
          ∙ c.loop-mark.invariant.below;
      listed = λ i within.
          ap (λ b. b || list_any (λ k. i == k) (drop (c.loop-mark.mark-index + 1) c.args.marks.now)) (c.with_mark-sheet.ensures.marks i within)
          ∙ one_more c.args.marks.now c.loop-mark.mark-index m c.loop-mark-test.true (search rules) i (has c.loop-mark.sheet i)
          ∙ c.loop-mark.invariant.listed i within;
    }

pub loop-mark-init : goal.loop-mark-init
loop-mark-init c = record {
  below = refl;
  listed = λ i _. ap (λ b. b || list_any (λ k. i == k) c.args.marks.now) (has_none i);
}

pub returns : goal.returns
returns c = record {
  below = sym c.loop-mark.invariant.below ∙ none_left_below c.args.count c.args.marks.now c.loop-mark.mark-index (omega arith);
  listed = λ i within.
      sym (none_left i (has c.loop-mark.sheet i) c.args.marks.now c.loop-mark.mark-index (omega arith))
      ∙ c.loop-mark.invariant.listed i within;
}
