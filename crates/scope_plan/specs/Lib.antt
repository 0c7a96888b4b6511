pub mod Facings
pub mod Plannings
