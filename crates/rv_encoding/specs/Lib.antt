pub mod Fields
pub mod Fits
pub mod Formats
pub mod Parts
pub mod Rows
pub mod Words
pub mod System
