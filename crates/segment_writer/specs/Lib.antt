pub mod Drafts
pub mod Heads
