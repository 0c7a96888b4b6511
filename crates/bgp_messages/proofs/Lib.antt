pub mod Gathering
pub mod Standing
