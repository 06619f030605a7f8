pub mod Orders
pub mod laws
