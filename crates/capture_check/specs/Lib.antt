pub mod Answers
pub mod Checkers
pub mod Expecting
pub mod Flows
pub mod Judgements
pub mod Lines
