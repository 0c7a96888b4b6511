pub mod Lines
pub mod Words
pub mod Said
pub mod Texts
pub mod Faults
