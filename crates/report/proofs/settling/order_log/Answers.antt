use Rattle.std.proofs.Common.{◌≡◌, ◌≤◌, length, vec_items, ap, arith}
use Rattle.orders.specs.Models.{room_of}
use Rattle.report.specs.Logs.{calls_for}
use Rattle.report.proofs.Told.{order_told}
use Rattle.report.proofs.settling.order_log.Goals as goal

pub returns : goal.returns
returns g c =
    let log = c.in_ok-log.log in
    let made = c.in_ok-log.ensures in
    let calls = c.as_slice.result.now in
    let made_calls = c.in_ok-calls.calls in
    let called : calls ≡ calls_for c.args.acts.now = cc (c.in_ok-calls.ensures, c.as_slice.ensures.value) in
    let enough : length calls ≤ room_of log =
    let many = ap length c.as_slice.ensures.value in
    omega (arith, made_calls.ok.0, c.len.ensures, made.len, made.capacity) in
    order_told (room_of log) c.args.acts.now calls (vec_items log) (vec_items c.conduct.new.log) made.items called enough _ _ c.conduct.ensures.log
