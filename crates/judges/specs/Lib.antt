pub mod Numbers
pub mod Programs
pub mod Rounds
pub mod Verdicts
pub mod Books
pub mod Clauses
pub mod Theorems
pub mod laws
