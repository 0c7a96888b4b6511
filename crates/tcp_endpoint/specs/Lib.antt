pub mod Numbers
pub mod Halves
pub mod Ends
pub mod Answers
pub mod Arrivals
pub mod Fins
pub mod Plans
pub mod Emissions
