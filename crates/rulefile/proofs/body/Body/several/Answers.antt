use Rattle.std.proofs.Common.{[], ◌∷◌, map, vec_items, refl, ap, ◌∙◌, arith}
use Rattle.std.proofs.lemmas.Slice.{pushed}
use Rattle.std.proofs.lemmas.List.{map_push}
use Rattle.rulefile.proofs.Steps.{fault_on, times_more, times_breaks, times_all}
use Rattle.rulefile.proofs.body.Body.several.Goals as goal

pub returns-in_err-read-clause-parses : goal.returns-in_err-read-clause-parses
returns-in_err-read-clause-parses g c =
    fault_on _ _ _ _ c.from_residual.result c.from_residual.ensures.1 c.in_err-read.ensures.parses
    (λ why e. times_breaks _ c.args.n c.loop-i._i _ _ (omega arith) c.loop-i.invariant.1 e)

pub loop-i-preserved : goal.loop-i-preserved
loop-i-preserved g c =
    let m = g.T.Field.meaning in
    let x = c.in_ok-read.field-0 in
    let kept = c.in_ok-read.ensures.kept in
    let items = ap (map m) (pushed {was = vec_items c.loop-i.all} (x ∷ []) refl c.in_ok-push.was c.push.ensures.items) ∙ map_push m (vec_items c.loop-i.all) x in (
      kept ∙ c.loop-i.invariant.0,
      rw kept (times_more _ c.args.n c.loop-i._i _ _ (m x) _ _ (omega arith) c.loop-i.invariant.1 c.in_ok-read.ensures.parses items),
    )

pub returns-clause-parses : goal.returns-clause-parses
returns-clause-parses g c = times_all _ c.args.n c.loop-i._i _ _ (omega arith) c.loop-i.invariant.1
