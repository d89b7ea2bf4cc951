pub mod Alpha
pub mod Bounds
pub mod Nearness
pub mod Laws
pub mod Tiles
