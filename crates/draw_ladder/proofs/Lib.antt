pub mod SightLaws
pub mod Walks
