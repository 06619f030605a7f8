pub mod Steps
pub mod Chains
pub mod Picks
pub mod FirstClause
