pub mod Timing
pub mod Reading
pub mod Mapped
