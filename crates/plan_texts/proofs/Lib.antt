mod NodeLaws
pub mod Parts
