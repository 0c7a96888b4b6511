pub mod ListLaws
pub mod SearchLaws
