pub mod Words
pub mod Usage
pub mod Work
pub mod Template
