pub mod Documents
pub mod Ranges
pub mod Loans
pub mod Pairs
pub mod Seen
pub mod Wants
