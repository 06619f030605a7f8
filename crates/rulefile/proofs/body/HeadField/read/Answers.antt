use Rattle.sheets.specs.Sheets.{width}
use Rattle.rulefile.proofs.Sound.{in_range}
use Rattle.rulefile.proofs.body.HeadField.read.Goals as goal

pub invariant_of-result : goal.invariant_of-result
invariant_of-result c = record { few = (in_range 1 width _ c.in_ok-count.ensures.parses).1 }
