use Rattle.std.proofs.Common.{◌≡◌, ◌+◌, sym, refl, ap, ◌∙◌, subst, subst₂}
use Rattle.sheets.specs.Sheets.{width}
use Rattle.orders.specs.Searches.{stepped, none}
use Rattle.orders.proofs.Dismissals.{Well}
use Rattle.orders.proofs.Walks.{steps_one}
use Rattle.orders.proofs.Remaining.{next_less}
use Rattle.orders.proofs.steps.Walk.finish.Goals as goal

pub loop-self-init : goal.loop-self-init
loop-self-init g c = record { judge = refl; scale = refl; steps = (0, none) }

pub loop-self-smaller : goal.loop-self-smaller
loop-self-smaller g c =
    let going = ap (λ w. w.search.finished) (sym c.self.view_is) ∙ c.loop-self-test.true in
    let w = c.loop-self.self in
    let well : Well width w.search = subst (λ v. Well width v.search) c.self.view_is (record { few = c.self.invariant.0; low = c.self.invariant.1 }) in
    next_less (g.J.Judge.judging w.judge.now) (g.S.Scale.scaling w.scale.now) (g.met.J.Judge.keeps_laws w.judge.now).few width (g.met.J.Judge.keeps_laws w.judge.now).few _ _ well going c.step.ensures.search

pub loop-self-preserved : goal.loop-self-preserved
loop-self-preserved g c =
    let inv = c.loop-self.invariant in
    let told = c.step.ensures in
    let going = ap (λ w. w.search.finished) (sym c.self.view_is) ∙ c.loop-self-test.true in
    record {
      judge = told.judge ∙ inv.judge;
      scale = told.scale ∙ inv.scale;
      steps = (
        inv.steps.0 + 1,
        steps_one _ _ _ _ _ _ inv.steps.1 going
            (subst₂ (λ j s. c.step.new.self.search ≡ stepped (g.J.Judge.judging j.now) (g.S.Scale.scaling s.now) c.loop-self.self.search) inv.judge inv.scale told.search),
      );
    }
