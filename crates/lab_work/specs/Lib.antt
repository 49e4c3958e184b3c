pub mod Files
pub mod Elf
pub mod Names
pub mod Sweep
pub mod Trace
