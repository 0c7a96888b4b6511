pub mod FeedLaws
pub mod FrontLaws
pub mod Parts
pub mod SealLaws
pub mod InputLaws
