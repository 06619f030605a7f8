use Rattle.std.proofs.Common.{vec_items, rc_value, ◌∙◌, ap₂}
use Rattle.std.proofs.lemmas.Bool.Decides.{Decides-at}
use Rattle.scales.specs.declared.cost.LevelCost.{LevelCost}
use Rattle.scales.specs.Levels.{wishes_of, levels_of, cheaper}
use Rattle.scales.specs.laws.Sums.{below_dominates}
use Rattle.scales.proofs.levels.Levels.dominates.Goals as goal

pub returns : goal.returns
returns c =
    let ws = wishes_of c.args.self.now in
    let value = c.below.ensures ∙ ap₂ (λ (a b : LevelCost). (levels_of ws).below a b) c.cost.ensures.value c.cost-2.ensures.value in
    record {
      value = value;
      meaning = Decides-at _ (cheaper ws c.args.sheet c.args.other) value
          (below_dominates (vec_items (rc_value c.args.self.now.file).wishes) c.args.sheet c.args.other);
    }
