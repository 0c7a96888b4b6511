pub mod Lossless
pub mod Once
pub mod Meeting
pub mod Reaching
