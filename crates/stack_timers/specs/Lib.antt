pub mod Indexes
pub mod Loans
pub mod Places
pub mod Timers
pub mod Watches
pub mod Bounds
pub mod Millis
