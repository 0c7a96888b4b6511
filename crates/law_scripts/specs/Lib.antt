pub mod Printed
pub mod Scripts
pub mod Timed
pub mod Left
