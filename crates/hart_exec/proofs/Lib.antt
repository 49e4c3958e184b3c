pub mod Effects
pub mod Words
pub mod Operations
