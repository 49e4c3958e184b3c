pub mod Masks
pub mod Apart
pub mod Groups
mod Counting
pub mod Again
pub mod Round
