pub mod Anew
pub mod Old
pub mod SeenPackets
