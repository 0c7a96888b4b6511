pub mod GetsThrough
pub mod Lawful
