pub mod Wishes
pub mod Theorems
pub mod Levels
pub mod Distances
pub mod Words
pub mod laws
