pub mod Fronts
pub mod Headers
pub mod Spelled
pub mod Streams
