pub mod Pictures
pub mod Placements
pub mod SessionPictures
