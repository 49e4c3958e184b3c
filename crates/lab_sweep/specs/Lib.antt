pub mod Moved
pub mod Outcome
pub mod Rows
pub mod Sink
pub mod Sweep
pub mod Texts
