use Rattle.std.proofs.Common.{◌^◌, ◌<◌, arith}
use Rattle.std.specs.Prelude.{bit_and}
use Rattle.std.specs.Int.Bits.{and_lt}
use Rattle.sheets.specs.Sheets.{width, others}
use Rattle.sheets.specs.laws.Parts.{others_word}
use Rattle.sheets.specs.laws.Counting.{ones_most}
use Rattle.sheets.proofs.LiteralSets.{count_held}
use Rattle.sheets.proofs.literal_sets.LiteralSet.count_held.Goals as goal

pub returns-clause-value : goal.returns-clause-value
returns-clause-value c ls h d =
    let p : c.args.self.plain < 2 ^ width = omega arith in
    let n : c.args.self.nots < 2 ^ width = omega arith in
    let t : c.args.by.plain < 2 ^ width = omega arith in
    let a : c.args.by.negated < 2 ^ width = omega arith in
    count_held c.args.self.plain c.args.self.nots c.args.by.plain c.args.by.negated ls p n t a h d

pub returns-clause-most : goal.returns-clause-most
returns-clause-most c =
    let p : c.args.self.plain < 2 ^ width = omega arith in
    let n : c.args.self.nots < 2 ^ width = omega arith in
    let a : c.args.by.negated < 2 ^ width = omega arith in
    let plain = ones_most (bit_and c.args.self.plain c.args.by.plain) (and_lt width c.args.self.plain c.args.by.plain p (omega arith)) in
    let nots = ones_most (bit_and c.args.self.nots (others c.args.by.negated)) (and_lt width c.args.self.nots (others c.args.by.negated) n (others_word c.args.by.negated a)) in
    omega (arith, plain, nots)
