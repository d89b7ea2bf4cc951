pub mod Fronts
pub mod Laws
pub mod Limits
pub mod Ranges
pub mod Readings
pub mod Singles
pub mod Tags
pub mod Views
