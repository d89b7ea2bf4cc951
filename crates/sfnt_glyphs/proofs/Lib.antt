mod Collects
mod Drawings
mod Placed
pub mod ContourBounds
pub mod AdvanceLemmas
mod Wide
