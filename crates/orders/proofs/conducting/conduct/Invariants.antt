use Rattle.std.proofs.Common.{◌≡◌, vec_items, vec_capacity}
use Rattle.orders.specs.Turns.{state_of, judge_of, scale_of}
use Rattle.orders.proofs.Conducted.{Along}
use Rattle.orders.proofs.conducting.conduct.Given as goal

-- the calls so far were answered, and led to the order
abbrev pub invariant-loop-call : goal.invariant-loop-call
invariant-loop-call g l =
    Along (g.J.Judge.judging l.fn.judge) (g.S.Scale.scaling l.fn.scale) l.calls (vec_items l.initial.log) (vec_items l.log) l.call-index (state_of l.order)
    × (judge_of l.order ≡ l.fn.judge)
    × (scale_of l.order ≡ l.fn.scale)
    × (vec_capacity l.log ≡ vec_capacity l.initial.log)
