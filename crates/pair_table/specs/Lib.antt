pub mod Listings
pub mod Loans
pub mod Places
