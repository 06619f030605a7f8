use Rattle.std.proofs.Common.{rules}
use Rattle.kiosk.proofs.Shown.{written_more, written_same}
use Rattle.kiosk.proofs.write_whole.Goals.{in-Ok, in-Err+else-ne}
use Rattle.kiosk.proofs.write_whole.Goals as goal

pub loop-preserved : goal.loop-preserved
loop-preserved g c =
    let written = c.loop.invariant in
    elim c.match-write.branch [
      | in-Ok w ↦ (search rules, written_more _ _ _ c.args.bytes.now c.loop.written w.in-Ok.n _ w.written-is written.1 w.in-Ok.ensures.bytes)
      | in-Err+else-ne w ↦ (search rules, written_same _ _ _ c.args.bytes.now c.loop.written _ w.written-is written.1 w.in-Err.ensures.bytes)
    ]
