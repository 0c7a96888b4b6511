mod IndexLaws
mod KeptLaws
mod ListLaws
pub mod MapLaws
mod PlaceLaws
mod TimingLaws
