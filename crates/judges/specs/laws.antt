pub mod BookLaws
pub mod Reached
pub mod Grounds
pub mod Breaks
pub mod ListLaws
