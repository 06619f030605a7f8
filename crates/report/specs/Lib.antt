pub mod Numbers
pub mod Words
pub mod Writing
pub mod Lines
pub mod Reports
pub mod Presses
pub mod Logs
pub mod Theorems
