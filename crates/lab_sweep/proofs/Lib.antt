pub mod InOrder
pub mod Loops
pub mod Told
mod NotRead
mod Chains
