pub mod HeadLaws
pub mod LaidLaws
pub mod SealLaws
pub mod SizeLaws
