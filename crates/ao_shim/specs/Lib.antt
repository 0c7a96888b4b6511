pub mod Arrivals
pub mod Guards
pub mod Plans
pub mod Puts
pub mod Laying
pub mod Starts
