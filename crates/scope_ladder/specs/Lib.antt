pub mod Drawing
pub mod Known
pub mod Searches
pub mod Writing
