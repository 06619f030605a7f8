use Rattle.std.proofs.Common.{◌≡◌, ◌^◌, ◌<◌, ◌∙◌, ap₂, arith}
use Rattle.sheets.specs.Sheets.{width, others}
use Rattle.sheets.specs.laws.Parts.{sheet_part, sheet_full}
use Rattle.orders.proofs.steps.sheet_cost.Goals as goal

-- the floor of the part-sheet that stands for the sheet is its cost
pub returns : goal.returns
returns g c =
    let s = g.S.Scale.scaling c.args.scale.now in
    let z = c.args.sheet in
    let word : z < 2 ^ width = omega arith in
    let part = c.of_sheet.result in
    let same : s.floor part.present part.absent ≡ s.floor z (others z) = ap₂ s.floor c.of_sheet.ensures.present c.of_sheet.ensures.absent in
    let whole : s.floor z (others z) ≡ s.cost z = (g.met.S.Scale.keeps_laws c.args.scale.now).exact z (others z) (sheet_part z word) (sheet_full z word) in
    let told : c.floor.result ≡ s.floor part.present part.absent = c.floor.ensures in
    told ∙ (same ∙ whole)
