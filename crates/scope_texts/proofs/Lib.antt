mod InstantLaws
mod ReadingLaws
mod MomentLaws
pub mod PlaceLaws
pub mod ShownLaws
pub mod WordLaws
pub mod FindingLaws
pub mod KeyLaws
pub mod SaidLaws
pub mod WalkLaws
