pub mod Counts
pub mod Sums
pub mod Orders
pub mod Groups
