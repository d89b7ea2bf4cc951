pub mod Laws
pub mod Paths
pub mod Runs
pub mod Sketches
pub mod Tokens
