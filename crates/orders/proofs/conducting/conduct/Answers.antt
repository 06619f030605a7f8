use Rattle.std.proofs.Common.{◌≡◌, ◌+◌, ◌≤◌, length, get_or, Vec, vec_items, vec_capacity, refl, ◌∙◌, subst₂, arith}
use Rattle.sheets.specs.Judging.{Judging}
use Rattle.sheets.specs.Scaling.{Scaling}
use Rattle.orders.specs.declared.calls.Call.{Call}
use Rattle.orders.specs.declared.calls.Call.TheVariants as call
use Rattle.orders.specs.declared.calls.Answer.{Answer}
use Rattle.orders.specs.declared.stage.Order.{Order}
use Rattle.orders.specs.Models.{room_of, acts_of}
use Rattle.orders.specs.Turns.{Turn, Turned, state_of, judge_of, scale_of}
use Rattle.orders.proofs.Conducted.{along_none, along_more, along_all, along_room, along_stops}
use Rattle.orders.proofs.conducting.conduct.Goals as goal

-- a call on an order over the judge and the scale leads to one over the same
module _ {J S C : Type 0} {j : _} {s : _} (judging : J → Judging) (scaling : S → Scaling C) where
  turned_over : (order next : Order J S C j s) (c : Call) (r : Answer C) (judge : J) (scale : S) → Turned judging scaling order c next r → judge_of order ≡ judge → scale_of order ≡ scale
      → Turn (judging judge) (scaling scale) (state_of order) c r (state_of next) × (judge_of next ≡ judge) × (scale_of next ≡ scale)
  turned_over order next c r judge scale turned j s =
      (subst₂ (λ a b. Turn (judging a) (scaling b) (state_of order) c r (state_of next)) j s turned.turn, turned.judge ∙ j, turned.scale ∙ s)

pub loop-call-init : goal.loop-call-init
loop-call-init g c = (along_none _ _ _ _ (acts_of c.begin.result.acts) c.begin.ensures.acts, c.begin.ensures.judge, c.begin.ensures.scale, refl)

pub loop-call-preserved : goal.loop-call-preserved
loop-call-preserved g c =
    let inv = c.loop-call.invariant in
    let called = get_or c.args.calls.now c.loop-call.call-index (call.Pin 0) in
    let next = turned_over g.J.Judge.judging g.S.Scale.scaling c.loop-call.order c.in-Some.next called c.in-Some.answer c.args.judge c.args.scale c.in-Some.ensures inv.1 inv.2 in
    (along_more _ _ _ _ _ (vec_items c.push_reserved.new.self) _ _ (state_of c.in-Some.next) (call.Pin 0) c.in-Some.answer inv.0 c.loop-call-test.true next.0 c.push_reserved.ensures.items, next.1, next.2, ◌∙◌ {a = vec_capacity c.push_reserved.new.self} c.push_reserved.ensures.capacity inv.3)

-- a log of the same capacity has kept within the room
within_room : {X Z : Type 0} (old new : Vec X Z) → vec_capacity new ≡ vec_capacity old → length (vec_items new) ≤ length (vec_items old) + room_of old
within_room old new same = omega (arith, old.ok.0, old.ok.1, new.ok.0, new.ok.1)

-- the room is at its end
pub returns-then-len-capacity-clause-log : goal.returns-then-len-capacity-clause-log
returns-then-len-capacity-clause-log g c =
    let old = c.args.log.now in
    let new = c.loop-call.log in
    let inv = c.loop-call.invariant in
    along_room _ _ _ _ (g.met.J.Judge.keeps_laws c.args.judge) (g.met.S.Scale.keeps_laws c.args.scale) _ _ _ _ inv.0 (within_room old new inv.3)
    (omega (arith, old.ok.0, old.ok.1, new.ok.0, inv.3, c.len.ensures, c.capacity.ensures, c.if-len-capacity.true))

-- the stage does not have the call
pub returns-in_default-clause-log : goal.returns-in_default-clause-log
returns-in_default-clause-log g c =
    let inv = c.loop-call.invariant in
    along_stops _ _ _ _ (g.met.J.Judge.keeps_laws c.args.judge) (g.met.S.Scale.keeps_laws c.args.scale) _ _ _ _ inv.0 (within_room c.args.log.now c.loop-call.log inv.3)
    (call.Pin 0) c.loop-call-test.true c.in_default.ensures

-- all calls are answered
pub returns-clause-log : goal.returns-clause-log
returns-clause-log g c =
    let inv = c.loop-call.invariant in
    along_all _ _ _ _ (g.met.J.Judge.keeps_laws c.args.judge) (g.met.S.Scale.keeps_laws c.args.scale) _ _ _ _ inv.0 (within_room c.args.log.now c.loop-call.log inv.3) c.loop-call-test.false
