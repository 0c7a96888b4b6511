pub mod Captures
pub mod Files
