pub mod Digits
pub mod Frames
pub mod Stream
pub mod Numbers
pub mod Packets
pub mod Commands
pub mod Answers
