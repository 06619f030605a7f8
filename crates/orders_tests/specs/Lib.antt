pub mod Tables
pub mod Numbers
pub mod laws
