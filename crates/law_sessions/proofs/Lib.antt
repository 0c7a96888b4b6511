pub mod Grown
pub mod OldSigns
pub mod Unhidden
pub mod Datagrams
pub mod Files
pub mod Lines
pub mod Reasons
pub mod SameLines
