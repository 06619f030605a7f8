pub mod CutOff
