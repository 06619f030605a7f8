use Rattle.std.proofs.Common.{◌+◌, ◌-◌, length, refl, rules}
use Rattle.std.proofs.KnownBytes.{Consumes-kept}
use borrow.Rule.Slice.PartMut.{put_mid}
use Rattle.rulefile.proofs.Given.{filled_more, filled_same, at_most}
use Rattle.rulefile.proofs.inputs.fill.Goals.{in-Ok, in-Err+else-ne}
use Rattle.rulefile.proofs.inputs.fill.Goals as goal

pub returns-in-Ok-eq0-clause-bound : goal.returns-in-Ok-eq0-clause-bound
returns-in-Ok-eq0-clause-bound g c =
    let at = c.loop.filled in
    let n = c.in-Ok-eq0.field-0 in
    let before = c.loop.buffer in
    at_most _ _ (at + n) _ (put_mid at (length before - at) before c.read.new.buf) (search rules) (search rules)
    (filled_more _ _ _ at (length before - at) n (at + n) before c.read.new.buf c.loop.invariant.1 c.in-Ok-eq0.ensures.bound.0 refl c.loop.invariant.2 c.in-Ok-eq0.ensures.bytes.0)

pub returns-then-ne-clause-bound : goal.returns-then-ne-clause-bound
returns-then-ne-clause-bound g c =
    at_most _ _ c.loop.filled _ c.loop.buffer c.loop.invariant.1 c.loop.invariant.0 (Consumes-kept _ _ _ _ c.loop.invariant.2 c.in-Err.ensures.bytes)

pub loop-preserved : goal.loop-preserved
loop-preserved g c =
    let at = c.loop.filled in
    let before = c.loop.buffer in
    let part = c.read.new.buf in
    elim c.match-read.branch [
      | in-Ok w ↦ (
        search rules,
        search rules,
        filled_more _ _ _ at (length before - at) w.in-Ok.n _ before part c.loop.invariant.1 w.in-Ok.ensures.bound.0 w.filled-is c.loop.invariant.2 w.in-Ok.ensures.bytes.0,
      )
      | in-Err+else-ne w ↦ (
        search rules,
        search rules,
        filled_same _ _ _ at (length before - at) _ before part c.loop.invariant.1 w.filled-is c.loop.invariant.2 w.in-Err.ensures.bytes,
      )
    ]
