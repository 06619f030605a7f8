use Rattle.std.proofs.Common.{◌^◌, ◌<◌, refl, arith}
use Rattle.sheets.specs.Sheets.{width}
use Rattle.sheets.specs.laws.Parts.{apart_from_and, and_from_apart}
use Rattle.sheets.proofs.part.PartSheet.new.Goals as goal

pub returns-then-present-absent-eq0 : goal.returns-then-present-absent-eq0
returns-then-present-absent-eq0 c = (apart_from_and c.args.present c.args.absent c.if-present-absent-eq0.true, refl, refl)

pub returns-else-present-absent-eq0 : goal.returns-else-present-absent-eq0
returns-else-present-absent-eq0 c apart =
    let present : c.args.present < 2 ^ width = omega arith in
    let absent : c.args.absent < 2 ^ width = omega arith in
    c.if-present-absent-eq0.false (and_from_apart width c.args.present c.args.absent present absent apart)
