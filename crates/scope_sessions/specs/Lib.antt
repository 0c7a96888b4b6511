pub mod Counting
pub mod Given
pub mod JsonParts
pub mod KeyRows
pub mod Reading
pub mod Texts
pub mod Writing
