pub mod Hearing
pub mod HasRead
pub mod Walks
pub mod Fronts
pub mod Reads
pub mod Passes
