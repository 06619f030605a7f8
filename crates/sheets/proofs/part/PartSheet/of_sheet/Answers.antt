use Rattle.std.proofs.Common.{◌^◌, ◌<◌, arith}
use Rattle.sheets.specs.Sheets.{width, others}
use Rattle.sheets.specs.laws.Parts.{and_from_apart, others_word, others_apart}
use Rattle.sheets.proofs.part.PartSheet.of_sheet.Goals as goal

pub invariant_of-result : goal.invariant_of-result
invariant_of-result c =
    let z = c.args.sheet in
    let word : z < 2 ^ width = omega arith in
    record { apart = and_from_apart width z (others z) word (others_word z word) (others_apart z word) }
