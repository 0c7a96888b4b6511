pub mod NameLaws
pub mod EventLoop
pub mod EventRanges
pub mod ScriptRanges
pub mod ActLaws
pub mod StepLaws
pub mod RunLaws
