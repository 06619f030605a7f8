use Rattle.ceilings.proofs.CutOff.{conducted_below}
use Rattle.ceilings.proofs.conducting.conduct_below.Goals as goal

pub returns-clause-log : goal.returns-clause-log
returns-clause-log g c =
    conducted_below _ _ c.args.ceiling (g.met.J.Judge.keeps_laws c.args.judge) (g.met.S.Scale.keeps_laws c.args.scale.now) _ _ _ _ c.conduct.ensures.log
