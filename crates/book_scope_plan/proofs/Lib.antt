pub mod ChangeLaws
pub mod GoodLaws
pub mod FillingLaws
pub mod MarkLaws
pub mod OrderLaws
mod SliceLaws
