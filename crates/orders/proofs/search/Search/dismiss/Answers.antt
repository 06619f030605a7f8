use Rattle.std.proofs.Common.{◌≡◌, ℕ, suc, ◌+◌, ◌-◌, ◌*◌, ◌%◌, ◌^◌, ◌<◌, ◌≤◌, false, Option, sym, ap, ◌∙◌, subst, arith}
use lib.Bits.{bit_or}
use Rattle.std.proofs.lemmas.Nat.{one_shl}
use Rattle.sheets.specs.Sheets.{width, has}
use Rattle.orders.specs.Search.{Search}
use Rattle.orders.specs.Searches.{dismissed}
use Rattle.orders.proofs.Powers.{has_least}
use Rattle.orders.proofs.Dismissals.{Well, dismissed_well, dismissed_present, dismissed_absent}
use Rattle.orders.proofs.search.Search.dismiss.Goals as goal

-- the last absent decision turned, as the code has it
made : ℕ → ℕ → Option ℕ → Search
made last q held = record { depth = last + 1; present = bit_or q (1 * 2 ^ last % 2 ^ width); held = held; finished = false }

-- it is the dismissed place
made_is : (k p m q : ℕ) (held : Option ℕ) → 0 < m → m ≤ width → has q (m - 1) ≡ false → dismissed m q held ≡ dismissed k p held → made (m - 1) q held ≡ dismissed k p held
unfolding made
made_is k p m q held some few lacks same =
    let last = m - 1 in
    let next : suc last ≡ m = omega arith in
    let one : ℕ → Search = λ b. record { depth = last + 1; present = bit_or q b; held = held; finished = false } in
    ap one (one_shl last width (omega arith)) ∙ dismissed_absent q last held lacks ∙ ap (λ k. dismissed k q held) next ∙ same

pub returns-then-not-has_mark : goal.returns-then-not-has_mark
unfolding made
returns-then-not-has_mark c =
    made_is c.args.self.depth c.args.self.present c.loop-last.last c.loop-last.present c.args.held c.loop-last-test.true (omega (arith, c.self.invariant)) (sym c.if-not-has_mark.ensures) c.loop-last.invariant

pub overflow_sub-present : goal.overflow_sub-present
overflow_sub-present c =
    let last = c.loop-last.last - 1 in
    omega (arith, one_shl last width (omega (arith, c.self.invariant)), has_least last c.loop-last.present (sym c.if-not-has_mark.ensures))

pub loop-last-preserved : goal.loop-last-preserved
loop-last-preserved c =
    let last = c.loop-last.last - 1 in
    let next : suc last ≡ c.loop-last.last = omega arith in
    ap (λ b. dismissed last (c.loop-last.present - b) c.args.held) (one_shl last width (omega (arith, c.self.invariant)))
    ∙ dismissed_present c.loop-last.present last c.args.held (sym c.if-not-has_mark.ensures)
    ∙ ap (λ k. dismissed k c.loop-last.present c.args.held) next
    ∙ c.loop-last.invariant

-- no more marks are decided, and only decided ones are present
pub invariant_of-result : goal.invariant_of-result
unfolding made
invariant_of-result c =
    let same = made_is c.args.self.depth c.args.self.present c.loop-last.last c.loop-last.present c.args.held c.loop-last-test.true (omega (arith, c.self.invariant)) (sym c.if-not-has_mark.ensures) c.loop-last.invariant in
    let low = subst (λ (x : Search). x.present < 2 ^ x.depth) c.self.view_is c.self.invariant.1 in
    let well = subst (λ (x : Search). Well c.args.self.depth x) (sym same) (dismissed_well c.args.self.depth c.args.self.present c.args.held low) in
    (omega (arith, c.self.invariant, well.few), well.low)
