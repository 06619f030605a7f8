use Rattle.std.proofs.Common.{◌^◌, ◌<◌, refl, arith}
use Rattle.sheets.specs.Sheets.{width}
use Rattle.sheets.specs.laws.Parts.{decides_full}
use Rattle.sheets.proofs.part.PartSheet.is_full.Goals as goal

pub returns : goal.returns
returns c =
    let present : c.args.self.present < 2 ^ width = omega arith in
    let absent : c.args.self.absent < 2 ^ width = omega arith in
    record { value = refl; meaning = decides_full c.args.self.present c.args.self.absent present absent }
