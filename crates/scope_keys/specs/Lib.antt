pub mod Reports
pub mod KeyFiles
