pub mod FirstFindings
pub mod Own
