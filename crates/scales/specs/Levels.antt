-- Levels as a scale.
use Rattle.std.specs.Prelude.{Bool, List}
use Rattle.std.specs.Rc.{rc_value}
use Rattle.sheets.specs.Sheets.{Sheet}
use Rattle.sheets.specs.Scaling.{Scaling}
use Rattle.rulefile.specs.Answers.{file_of}
use Rattle.rulefile.specs.Model.{WishModel}
use Rattle.scales.specs.declared.cost.LevelCost.{LevelCost}
use Rattle.scales.specs.declared.levels.Levels.{Levels}
use Rattle.scales.specs.Wishes.{level_cost, level_floor, top, down_from, first_less}

-- the wishes of the file
abbrev pub wishes_of : Levels → List WishModel
wishes_of l = (file_of (rc_value l.file)).wishes

-- the sums of what holds and of the floors, compared from the top level down
abbrev pub levels_of : List WishModel → Scaling LevelCost
levels_of ws = record {
  cost = λ z. record { levels = down_from top (level_cost z ws) };
  floor = λ p a. record { levels = down_from top (level_floor p a ws) };
  below = λ a b. first_less a.levels b.levels;
}

-- the cost of the sheet x is below that of the sheet y
abbrev pub cheaper : List WishModel → Sheet → Sheet → Bool
cheaper ws x y = (levels_of ws).below ((levels_of ws).cost x) ((levels_of ws).cost y)
