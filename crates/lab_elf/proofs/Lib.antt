pub mod Headers
pub mod Pieces
pub mod Loads
pub mod Making
pub mod Loops
