pub mod NameLaws
pub mod EventLoop
pub mod TextParts
pub mod TimedWords
