pub mod Judges
pub mod Parts
pub mod Bits
pub mod Scales
pub mod Ceilings
pub mod Earlier
pub mod Counting
