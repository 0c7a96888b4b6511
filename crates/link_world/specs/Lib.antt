pub mod Events
pub mod Ranges
pub mod Changes
pub mod Fronts
pub mod Links
pub mod Arrivals
pub mod Stands
