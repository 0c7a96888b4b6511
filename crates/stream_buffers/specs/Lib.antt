pub mod Kept
pub mod Spans
pub mod Walks
pub mod Pool
pub mod Links
