use Rattle.std.proofs.Common.{◌≡◌, ◌^◌, ◌<◌, vec_items, rc_value, ap, ◌∙◌, ap₂, arith}
use Rattle.sheets.specs.Sheets.{width, others}
use Rattle.sheets.specs.laws.Parts.{sheet_part, sheet_full}
use Rattle.scales.specs.declared.cost.LevelCost.{LevelCost}
use Rattle.scales.specs.Wishes.{cost_at}
use Rattle.scales.specs.Levels.{wishes_of, levels_of}
use Rattle.scales.specs.laws.Sums.{levels_laws, sums_at}
use Rattle.scales.proofs.levels.Levels.cost.Goals as goal

pub returns : goal.returns
returns c =
    let ws = wishes_of c.args.self.now in
    let z = c.args.sheet in
    let word : z < 2 ^ width = omega arith in
    let value : c.floor.result ≡ (levels_of ws).cost z =
    c.floor.ensures
    ∙ ap₂ (λ p a. (levels_of ws).floor p a) c.of_sheet.ensures.present c.of_sheet.ensures.absent
    ∙ (levels_laws ws).exact z (others z) (sheet_part z word) (sheet_full z word) in
    record { value = value; sums = λ n. ap (λ (k : LevelCost). cost_at k.levels n) value ∙ sums_at (vec_items (rc_value c.args.self.now.file).wishes) z n }
