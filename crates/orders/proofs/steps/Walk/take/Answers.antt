use Rattle.std.proofs.Common.{◌≡◌, sym, refl, ap, ◌∙◌, subst₂}
use Rattle.orders.specs.Searches.{stepped, none}
use Rattle.orders.proofs.Walks.{steps_one}
use Rattle.orders.proofs.steps.Walk.take.Goals as goal

pub loop-taken-init : goal.loop-taken-init
loop-taken-init g c = record { judge = refl; scale = refl; steps = none }

pub loop-taken-preserved : goal.loop-taken-preserved
loop-taken-preserved g c =
    let inv = c.loop-taken.invariant in
    let told = c.step.ensures in
    let going = ap (λ w. w.search.finished) (sym c.self.view_is) ∙ c.if-self.false in
    record {
      judge = told.judge ∙ inv.judge;
      scale = told.scale ∙ inv.scale;
      steps = steps_one _ _ _ _ _ _ inv.steps going
          (subst₂ (λ j s. c.step.new.self.search ≡ stepped (g.J.Judge.judging j.now) (g.S.Scale.scaling s.now) c.loop-taken.self.search) inv.judge inv.scale told.search);
    }
