pub mod Agreement
pub mod Completeness
pub mod Counts
pub mod Fronts
pub mod Selftests
pub mod StillPlays
pub mod Writing
