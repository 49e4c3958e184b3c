pub mod Flow
pub mod Transfer
pub mod Rules
pub mod Look
pub mod Walk
pub mod Survey
pub mod Onward
