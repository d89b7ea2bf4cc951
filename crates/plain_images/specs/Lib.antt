pub mod Cutting
pub mod Listing
pub mod Panes
pub mod PlainImages
