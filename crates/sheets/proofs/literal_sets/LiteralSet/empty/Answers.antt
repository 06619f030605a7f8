use Rattle.sheets.proofs.LiteralSets.{stands_none}
use Rattle.sheets.proofs.literal_sets.LiteralSet.empty.Goals as goal

pub returns : goal.returns
returns c = stands_none
