pub mod Parts
pub mod Elf
pub mod Names
pub mod Trace
pub mod Sweep
pub mod Order
