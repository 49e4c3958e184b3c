pub mod Trace
pub mod Ends
pub mod Hart
pub mod Contents
pub mod Text
