-- Proofs that the laws of `Device` hold. Nothing in this folder has to be believed.
pub mod Alarm
pub mod Flash
pub mod Watchdog
