pub mod Limits
pub mod Shifts
pub mod Playing
pub mod Outputs
pub mod Times
pub mod Passes
pub mod Rounds
