pub mod CutLaws
mod HexadecimalLanes
pub mod InMemoryLaws
pub mod Pieces
pub mod ReadingOn
pub mod BufferLaws
mod Fillings
pub mod Sides
pub mod Slices
pub mod Calls
pub mod Newlines
pub mod Searches
pub mod Showing
