pub mod Ages
pub mod Counting
pub mod Holdings
pub mod Passing
pub mod Touching
