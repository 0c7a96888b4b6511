pub mod Arriving
pub mod Drafting
pub mod Moving
