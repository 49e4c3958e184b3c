pub mod Shown
pub mod Printing
pub mod Fitting
pub mod Listing
pub mod Tables
