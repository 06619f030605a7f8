pub mod Numbered
pub mod Listed
