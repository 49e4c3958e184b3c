pub mod Uart
pub mod Gpio
pub mod Ticker
pub mod Halter
pub mod Shipped
pub mod Laws
pub mod Sound
