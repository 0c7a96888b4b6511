pub mod Doings
pub mod Users
pub mod Links
pub mod Ends
pub mod Delivered
pub mod Single
pub mod Turns
