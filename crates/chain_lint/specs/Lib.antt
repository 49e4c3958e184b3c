pub mod Code
pub mod Bound
pub mod Soundness
pub mod Tables
pub mod Texts
pub mod Pairs
