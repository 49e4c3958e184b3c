pub mod Bits
pub mod CutText
pub mod FirstLine
