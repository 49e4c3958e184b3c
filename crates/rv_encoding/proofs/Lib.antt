pub mod Masks
pub mod Apart
pub mod Tops
pub mod FieldsFit
pub mod Round
pub mod Spelled
pub mod IgnoredBits
