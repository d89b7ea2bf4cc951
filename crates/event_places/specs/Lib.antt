pub mod Limits
pub mod Stands
pub mod Shifts
pub mod PlacedEvents
pub mod Steps
pub mod Placement
