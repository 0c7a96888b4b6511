pub mod SignedLaws
pub mod TextLaws
pub mod VerifyLaws
mod JudgedLaws
mod JudgementLaws
mod KeyLaws
pub mod LintLaws
mod HearingLaws
