pub mod Metrics
pub mod Glyphs
pub mod Laws
