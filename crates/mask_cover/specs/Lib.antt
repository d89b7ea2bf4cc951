pub mod Columns
pub mod Extents
pub mod Rows
pub mod Steps
pub mod Sums
