pub mod Pens
pub mod Sights
