pub mod Endings
pub mod Seen
pub mod Summaries
pub mod Carried
pub mod Apart
pub mod Newest
pub mod Turning
