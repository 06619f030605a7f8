use Rattle.std.proofs.Common.{[], ◌≡◌, ℕ, Result, refl, ap, ap₂, ◌∙◌, subst₂}
use Rattle.sheets.specs.Judging.{Judging}
use Rattle.orders.specs.declared.acts.Act.TheVariants.{Pin as PinAct}
use Rattle.orders.specs.declared.acts.Refusal.{Refusal}
use Rattle.orders.specs.declared.layer.Acts.{Acts}
use Rattle.orders.specs.Acts.{under}
use Rattle.orders.specs.Dockets.{after_act}
use Rattle.orders.specs.Models.{acts_of, held_to, Added}
use Rattle.orders.specs.Best.{Best}
use Rattle.orders_tests.proofs.direct.settle_by_advances.Goals as goal
use Rattle.orders_tests.proofs.direct.settle_by_advances.Goals.{else-loop-test, then-loop-test+then-advance}

-- a pin of an order on which no act stood
pinned : {J : Type 0} (judging : J → Judging) (judge : J) (before after : Acts J) (mark : ℕ) (r : Result ℕ Refusal) → acts_of before ≡ [] → before.judge ≡ judge
    → Added judging before (PinAct mark) r after → held_to judging after ≡ under (judging judge) (after_act (judging judge).count [] (PinAct mark))
pinned judging judge before after mark r none same added =
    ap₂ under (ap judging (added.judge ∙ same)) (added.acts ∙ ap₂ (λ n acts. after_act n acts (PinAct mark)) (ap (λ x. (judging x).count) same) none)

pub loop-init : goal.loop-init
loop-init g c = refl

pub loop-preserved : goal.loop-preserved
loop-preserved g c = c.advance.ensures.marking ∙ c.loop.invariant

pub returns : goal.returns
returns g c =
    let kept : c.loop-test.seeking.marking ≡ c.seek-seeking.result.marking =
    elim c.loop-test.branch [
      | else-loop-test w ↦ ap (λ s. s.marking) w.seeking-is ∙ c.loop.invariant
      | then-loop-test+then-advance w ↦ ap (λ s. s.marking) w.seeking-is ∙ w.advance.ensures.marking ∙ c.loop.invariant
    ] in
    let end = c.settle.ensures.marking ∙ kept ∙ c.seek-seeking.ensures.marking in
    let begun = c.begin-marking.ensures in
    subst₂ (λ j s. Best j s c.answer.result)
    (ap (λ m. held_to g.J.Judge.judging m.acts) end ∙ pinned g.J.Judge.judging c.args.judge c.begin-marking.result.acts c.pin.new.self.acts c.args.mark c.pin.result begun.acts begun.judge c.pin.ensures.acts)
    (ap (λ m. g.S.Scale.scaling m.scale) end ∙ ap g.S.Scale.scaling (c.pin.ensures.scale ∙ begun.scale))
    c.answer.ensures.best
