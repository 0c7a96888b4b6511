pub mod ChangeLaws
pub mod RecipeLaws
pub mod AnswerLaws
pub mod LackLaws
pub mod PartLaws
pub mod SuspectLaws
pub mod TellingLaws
