pub mod Levels
pub mod Kept
mod Lines
mod Offsets
