pub mod Checked
pub mod CheckedLines
pub mod CheckedPackets
pub mod Gatherings
pub mod Judges
