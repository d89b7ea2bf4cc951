pub mod Blending
pub mod Canvases
pub mod Lending
pub mod Areas
pub mod Blocks
pub mod Bands
pub mod Images
pub mod Painting
