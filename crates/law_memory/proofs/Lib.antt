pub mod Answering
pub mod Empty
pub mod Sides
