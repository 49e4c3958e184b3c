pub mod Shown
pub mod BothLaw
pub mod Placed
