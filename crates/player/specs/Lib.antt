pub mod Added
pub mod Changes
pub mod Listing
pub mod Players
