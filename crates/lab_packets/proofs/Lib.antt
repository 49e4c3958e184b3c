pub mod Pairs
pub mod Onward
pub mod FrameLaw
pub mod ItemsRead
pub mod ItemsFound
pub mod HexText
pub mod Again
pub mod Unescaped
