pub mod BlockLaws
pub mod CaptureLaws
pub mod Fronts
pub mod Passing
pub mod PcapCaptures
pub mod PcapngCaptures
pub mod RecordLaws
pub mod Steps
