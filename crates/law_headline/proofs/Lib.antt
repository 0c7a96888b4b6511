pub mod FilesThrough
pub mod InputLaws
pub mod LawfulRuns
pub mod ReportEnds
pub mod StormFits
pub mod TableFits
pub mod Through
pub mod TimedFits
