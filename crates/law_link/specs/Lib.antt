pub mod Entries
pub mod Headline
pub mod Laws
pub mod Sessions
