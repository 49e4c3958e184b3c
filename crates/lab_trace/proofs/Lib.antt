pub mod Back
pub mod Halves
pub mod Parts
