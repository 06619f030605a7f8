pub mod Pieces
pub mod Buffers
pub mod Texts
pub mod Told
pub mod Lengths
pub mod Only
pub mod PressLines
pub mod Written
