pub mod Name
pub mod Table
pub mod NamesFile
pub mod FirstWrong
pub mod NamesReading
