pub mod LifetimeLaws
mod SideLaws
mod SliceWalk
mod DateWalk
pub mod DrawsLaws
mod WidthLaws
