use Rattle.std.proofs.Common.{sym, ◌∙◌}
use Rattle.rulefile.specs.declared.uniform.Uniform.{Uniform}
use Rattle.rulefile.proofs.Counted.{uniform_next}
use Rattle.rulefile.proofs.uniform.Uniform.of.Goals as goal

pub loop-element-preserved : goal.loop-element-preserved
loop-element-preserved c m =
    let before : Uniform = record { weight = _; literals = c.loop-element.literals } in
    uniform_next c.args.elements.now c.loop-element.element-index _ before c.with-literals.result (c.loop-element.invariant m) m c.loop-element-test.true
    c.if-element-weight.false (sym c.has.ensures ∙ c.if-has.false) c.with-literals.ensures
