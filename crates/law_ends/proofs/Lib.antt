mod Acting
mod Calling
mod Fitting
mod Going
mod Making
mod Plain
mod Promising
mod Resetting
mod Standing
mod Stays
mod Worked
pub mod Single
pub mod Turns
