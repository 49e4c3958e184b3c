-- Proofs that the laws of `Device` hold. Nothing in this folder has to be believed.
pub mod Window
pub mod Both
pub mod WordRegisters
