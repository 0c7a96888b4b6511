pub mod Lends
pub mod Values
