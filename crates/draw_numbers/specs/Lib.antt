pub mod Limits
pub mod Widths
pub mod Colours
pub mod Pens
pub mod Clips
