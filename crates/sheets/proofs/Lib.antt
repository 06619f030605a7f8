pub mod Subsets
pub mod Lists
pub mod Held
pub mod LiteralSets
