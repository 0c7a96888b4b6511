pub mod Ending
pub mod Handed
pub mod Resting
pub mod Ruled
pub mod Single
