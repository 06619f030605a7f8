use Rattle.std.proofs.Common.{Some, sym, ap, ◌∙◌, subst, arith}
use Rattle.sheets.specs.Sheets.{width}
use Rattle.orders.specs.Search.{Search}
use Rattle.orders.specs.Searches.{priced}
use Rattle.orders.proofs.Dismissals.{Well, next_held}
use Rattle.orders.proofs.Decided.{full_open}
use Rattle.orders.proofs.steps.Walk.step.Goals as goal

pub invariant_of-self : goal.invariant_of-self
invariant_of-self g c = record {
  its_cost = c.args.self.now.its_cost
      ∙ ap (priced (g.S.Scale.scaling c.args.self.now.scale.now)) (ap (λ (x : Search). x.held) (sym c.search.view_is) ∙ next_held _ _ _ _ c.dismiss-self.ensures);
}

pub invariant_of-self-then-is_full : goal.invariant_of-self-then-is_full
invariant_of-self-then-is_full g c = record {
  its_cost = ap (λ k. Some (c.present-sheet.result, k)) c.sheet_cost.ensures
      ∙ ap (priced (g.S.Scale.scaling c.args.self.now.scale.now)) (next_held _ _ _ _ c.dismiss-self-then-is_full.ensures);
}

-- a place that is not full leaves a mark open
pub deepen-self-requires : goal.deepen-self-requires
deepen-self-requires g c =
    let x = c.args.self.now.search in
    let few = (g.met.J.Judge.keeps_laws c.args.self.now.judge.now).few in
    let well : Well width x = subst (λ v. Well width v) c.search.view_is (record { few = c.search.invariant.0; low = c.search.invariant.1 }) in
    let open_place = rw (c.place-place.ensures.present, c.place-place.ensures.absent, c.count.ensures) at (sym c.if-is_full.ensures.value) in
    let lt = full_open _ x few well open_place in
    omega arith
