use Rattle.std.proofs.Common.{◌*◌, ap, ◌∙◌, arith}
use Rattle.sheets.specs.Literals.{held}
use Rattle.rulefile.specs.Uniform.{literals_of}
use Rattle.rulefile.proofs.Counted.{counted_sum, product_fits}
use Rattle.rulefile.proofs.uniform.Uniform.sum.Goals as goal

pub overflow_mul-result : goal.overflow_mul-result
overflow_mul-result c = record { fits = product_fits c.from.result c.count_held.result (omega (arith, c.from.ensures)) c.count_held.ensures.most }

pub returns : goal.returns
returns c es h =
    let p = held c.args.by in
    let count = c.count_held.ensures.value (literals_of es) h.words h.once in
    let sum = counted_sum c.args.self.weight p es h.weights in
    ap (λ n. n * c.count_held.result) c.from.ensures ∙ ap (λ n. c.args.self.weight * n) count ∙ sum
