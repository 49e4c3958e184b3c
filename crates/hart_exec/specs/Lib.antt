pub mod Access
pub mod Arithmetic
pub mod Branches
pub mod Effect
pub mod Bounds
pub mod Operation
