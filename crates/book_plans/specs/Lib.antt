pub mod Calendar
pub mod Differences
pub mod Findings
pub mod Margins
pub mod Ways
