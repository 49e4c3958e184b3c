pub mod Symbols
pub mod Laying
pub mod Stops
pub mod Lines
pub mod Source
pub mod Answers
pub mod Placing
pub mod Relation
