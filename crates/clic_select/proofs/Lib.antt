mod ControllerBytes
pub mod Tops
pub mod Waiting
pub mod Winners
