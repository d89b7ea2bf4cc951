pub mod Boxes
pub mod Contours
pub mod CubicContours
pub mod Curves
pub mod Drawings
pub mod Glyphs
pub mod Limits
pub mod Placing
