pub mod Macs
pub mod Sealed
