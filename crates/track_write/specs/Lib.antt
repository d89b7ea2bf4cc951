pub mod Spelling
pub mod Rows
pub mod Texts
pub mod Shifts
pub mod Ranges
pub mod Pieces
pub mod Laws
