pub mod Boxes
pub mod Rows
pub mod Formats
pub mod Stills
pub mod Puts
pub mod Reels
pub mod Laws
