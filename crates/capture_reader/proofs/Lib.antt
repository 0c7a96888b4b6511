pub mod Ends
pub mod Finding
pub mod FrontParts
pub mod Options
pub mod PartPlaces
pub mod Powers
pub mod Tags
