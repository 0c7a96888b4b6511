pub mod Found
pub mod FoundParts
pub mod Places
pub mod Sizes
