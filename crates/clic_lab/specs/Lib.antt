pub mod Usage
pub mod Plan
pub mod SweepCauses
pub mod TraceCauses
