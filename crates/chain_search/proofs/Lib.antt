pub mod Told
pub mod Bounded
pub mod Sound
