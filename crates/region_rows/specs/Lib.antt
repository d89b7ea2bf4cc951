pub mod Grown
pub mod Growths
pub mod Joins
pub mod Limits
pub mod Widened
