pub mod Fault
pub mod Header
pub mod Headers
pub mod Loading
pub mod Symbols
