pub mod Sheets
pub mod Literals
pub mod Judging
pub mod Scaling
pub mod Ceilings
pub mod LiteralSets
pub mod Counting
pub mod laws
