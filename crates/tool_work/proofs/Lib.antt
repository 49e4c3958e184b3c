pub mod RunEnds
pub mod TwoFiles
pub mod ChainEnds
pub mod GenEnds
mod Agreed
mod Answered
mod Pulses
mod WordBytes
mod Labels
pub mod InShape
mod MemoryTexts
