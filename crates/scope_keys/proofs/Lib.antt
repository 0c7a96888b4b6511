pub mod FileLaws
pub mod SaidLaws
pub mod SeenLaws
pub mod FoundLaws
pub mod ReadLaws
