mod Gathering
pub mod Goings
mod Heard
pub mod JudgeLaws
pub mod LineEnds
pub mod LineSteps
pub mod RunLaws
mod Walk
