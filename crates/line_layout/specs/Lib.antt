pub mod Breaks
pub mod Filling
