pub mod Alarm
pub mod Flash
pub mod Watchdog
pub mod Template
pub mod Laws
pub mod Sound
