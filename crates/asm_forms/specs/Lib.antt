pub mod Forms
pub mod Kinds
pub mod Operations
pub mod Statements
pub mod Seen
