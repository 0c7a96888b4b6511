pub mod Dates
pub mod PlanLines
pub mod PlanPictures
pub mod RowNames
pub mod Spans
