pub mod Access
pub mod Stimulus
pub mod Meanings
pub mod Window
pub mod Both
pub mod Laws
pub mod WordRegisters
pub mod Sound
