pub mod Bits
pub mod WrittenBack
