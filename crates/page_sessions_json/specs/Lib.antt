pub mod Forms
pub mod Json
pub mod SessionJson
pub mod TableSeries
