pub mod Agreeing
pub mod RowFaults
pub mod NodeFaults
pub mod FileFaults
mod Changing
mod Mending
mod Reconfigured
mod Telling
