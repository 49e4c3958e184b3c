pub mod Digits
pub mod Entries
pub mod Lines
pub mod Spelled
pub mod Told
pub mod Wrong
pub mod Lookups
