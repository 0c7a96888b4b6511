pub mod StoredWords
mod Lines
pub mod Records
pub mod Judged
