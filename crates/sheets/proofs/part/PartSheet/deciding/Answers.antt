use Rattle.std.proofs.Common.{◌^◌, ◌<◌, refl, arith}
use Rattle.sheets.specs.Sheets.{width}
use Rattle.sheets.specs.laws.Parts.{deciding_disjoint}
use Rattle.sheets.proofs.part.PartSheet.deciding.Goals as goal

pub returns-clause-absent : goal.returns-clause-absent
returns-clause-absent c = refl

pub invariant_of-result : goal.invariant_of-result
invariant_of-result c =
    let word : c.args.present < 2 ^ width = omega arith in
    let decided : c.args.decided < 2 ^ width = omega arith in
    record { apart = deciding_disjoint c.args.decided c.args.present decided word }
