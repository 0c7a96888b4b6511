pub mod Happens
pub mod Folded
pub mod Heard
pub mod Numbers
pub mod Places
pub mod Steps
pub mod Table
