pub mod Chosen
pub mod Zeros
pub mod Fitting
pub mod SameKinds
