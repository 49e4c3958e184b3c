pub mod Times
pub mod Watches
pub mod Forwards
pub mod Backwards
pub mod First
pub mod Latest
pub mod RunOf
