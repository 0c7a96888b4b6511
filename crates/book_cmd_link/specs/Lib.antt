pub mod LinkEvents
pub mod LinkFiles
pub mod TimedRuns
pub mod Timers
pub mod BgpRuns
pub mod KeyTexts
pub mod LintTexts
