pub mod Names
pub mod Scripts
pub mod Calls
pub mod Nodes
pub mod Told
