use Rattle.std.proofs.Common.{◌^◌, ◌<◌, arith}
use Rattle.sheets.specs.Sheets.{width}
use Rattle.sheets.proofs.LiteralSets.{all_held}
use Rattle.sheets.proofs.literal_sets.LiteralSet.are_all_held.Goals as goal

pub returns : goal.returns
returns c ls h =
    let p : c.args.self.plain < 2 ^ width = omega arith in
    let n : c.args.self.nots < 2 ^ width = omega arith in
    let t : c.args.by.plain < 2 ^ width = omega arith in
    let a : c.args.by.negated < 2 ^ width = omega arith in
    all_held c.args.self.plain c.args.self.nots c.args.by.plain c.args.by.negated ls p n t a h
