pub mod Bytes
pub mod Items
pub mod Moves
pub mod Laying
pub mod Reading
pub mod FirstWrong
pub mod Standing
pub mod Writing
