pub mod Calls
pub mod Parts
pub mod Walking
mod Fronts
pub mod Going
pub mod Shorter
pub mod Showing
pub mod Ready
