pub mod Early
pub mod Entries
