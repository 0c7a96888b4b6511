pub mod AnswerLaws
pub mod Places
pub mod RowLaws
pub mod ShimAnswers
pub mod ShimPlaces
pub mod TallyLaws
pub mod Values
