pub mod Fields
pub mod Rows
pub mod Fits
pub mod Halves
pub mod Expansion
pub mod Decoding
pub mod Parts
