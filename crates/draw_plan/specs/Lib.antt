pub mod Lifetimes
pub mod Drawn
pub mod Draws
