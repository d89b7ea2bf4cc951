pub mod Fades
pub mod Moves
pub mod Shades
pub mod Parts
pub mod Layers
pub mod Stacks
pub mod Rounding
