use Rattle.std.proofs.Common.{◌≡◌, ℕ, ◌+◌, ◌<◌, ◌≤◌, List, [], ◌++◌, length, get_or, drop, sym, ap, ◌∙◌}
use Rattle.std.proofs.lemmas.List.{at_drop_more, at_drop_all}
use Rattle.scales.specs.declared.cost.LevelCost.{LevelCost}
use Rattle.orders.specs.declared.calls.Event.{Event}
use Rattle.report.specs.Logs.{answer_text, log_text}
use Rattle.report.proofs.Pieces.{left_first, left_more, left_none}
use Rattle.report.proofs.writing.Writer.log.Goals as goal

-- e is what stands at i
first : (log : List (Event (LevelCost × ℕ))) (i : ℕ) (e : Event (LevelCost × ℕ)) → i < length log → e ≡ get_or log i e → log_text (drop i log) ≡ answer_text e.answer ++ log_text (drop (i + 1) log)
unfolding log_text
first log i e lt is = at_drop_more log_text log i e lt ∙ ap (λ (x : Event (LevelCost × ℕ)). answer_text x.answer ++ log_text (drop (i + 1) log)) (sym is)

none : (log : List (Event (LevelCost × ℕ))) (i : ℕ) → length log ≤ i → log_text (drop i log) ≡ []
unfolding log_text
none log i le = at_drop_all log_text log i le

pub answer-requires : goal.answer-requires
answer-requires c =
    let log = c.args.log.now in
    let i = c.loop-event.event-index in
    let e = c.event-item.result in
    left_first (answer_text e.answer) (log_text (drop (i + 1) log)) (first log i e c.loop-event-test.true c.event-item.is) c.loop-event.invariant

pub loop-event-preserved : goal.loop-event-preserved
loop-event-preserved c =
    let log = c.args.log.now in
    let i = c.loop-event.event-index in
    let e = c.event-item.result in
    left_more (log_text (drop (i + 1) log)) (first log i e c.loop-event-test.true c.event-item.is) c.loop-event.invariant c.answer.ensures

pub returns : goal.returns
returns c = left_none (none c.args.log.now c.loop-event.event-index c.loop-event-test.false) c.loop-event.invariant
