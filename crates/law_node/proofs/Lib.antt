pub mod Held
pub mod PairMaps
pub mod Pairs
pub mod Runs
pub mod Steps
