pub mod Drawn
pub mod KnownLaws
pub mod Options
pub mod Searching
pub mod Walk
pub mod Within
