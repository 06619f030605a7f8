-- Where a search stands.
use Rattle.std.specs.Prelude.{Bool, Option}
use Rattle.sheets.specs.Sheets.{Sheet, Count}

pub record Search : Type 0 where
  -- the place decides the first `depth` marks, of which those in `present` are present and the others absent
  pub depth : Count
  pub present : Sheet
  -- the sheet that is held, if there is one
  pub held : Option Sheet
  -- no step remains
  pub finished : Bool
