pub mod Addresses
pub mod Algorithms
pub mod Decimals
pub mod Fronts
pub mod Hexadecimal
pub mod Lines
pub mod Orders
pub mod Results
