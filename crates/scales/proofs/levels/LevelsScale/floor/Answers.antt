use Rattle.std.proofs.Common.{List, ℤ, ap, ◌∙◌}
use Rattle.rulefile.specs.declared.files.RuleFile.{RuleFile}
use Rattle.rulefile.specs.Answers.{file_of}
use Rattle.scales.specs.Wishes.{level_floor, top, down_from}
use Rattle.scales.proofs.levels.LevelsScale.floor.Goals as goal

pub returns : goal.returns
returns c =
    ap (λ (l : List ℤ). record { levels = l })
    (c.level_floors.ensures ∙ ap (λ (f : RuleFile). down_from top (level_floor c.args.part.present c.args.part.absent (file_of f).wishes)) c.deref.ensures)
