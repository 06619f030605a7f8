pub mod Best
pub mod CutOff
