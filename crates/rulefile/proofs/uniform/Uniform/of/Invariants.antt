use Rattle.std.proofs.Common.{take}
use Rattle.sheets.specs.LiteralSets.{MarksInWidth}
use Rattle.rulefile.specs.Uniform.{literals_of, AreUniform}
use Rattle.rulefile.proofs.uniform.Uniform.of.Given as goal

-- the elements so far have the weight, and the set stands for their literals
abbrev pub invariant-loop-element : goal.invariant-loop-element
invariant-loop-element l = MarksInWidth (literals_of l.elements) → AreUniform (take l.element-index l.elements) (record { weight = l.weight; literals = l.literals })
