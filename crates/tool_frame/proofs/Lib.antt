mod NoFault
mod Found
pub mod Commands
pub mod Ends
pub mod Fits
pub mod Held
pub mod Calm
pub mod Complete
pub mod Causes
pub mod Left
