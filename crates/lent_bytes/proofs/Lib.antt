pub mod PartLaws
pub mod PutLaws
