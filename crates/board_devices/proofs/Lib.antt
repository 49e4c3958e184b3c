pub mod Ticking
pub mod Reading
pub mod Mapped
