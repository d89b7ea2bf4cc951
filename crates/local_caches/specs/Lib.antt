pub mod LocalParts
pub mod Codes
pub mod Keeping
pub mod Painting
pub mod Unwidened
