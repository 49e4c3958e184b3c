-- Proofs that the four devices meet the laws of `Device`. Nothing in this folder has to be believed.
pub mod Halter
pub mod Ticker
pub mod Gpio
pub mod Uart
