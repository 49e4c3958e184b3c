pub mod Attribute
pub mod Filled
pub mod Shape
pub mod ClicState
pub mod Fields
pub mod Level
pub mod LineChange
pub mod Bytes
