mod PartLaws
mod PlannedLaws
pub mod ReportLaws
mod WayLaws
