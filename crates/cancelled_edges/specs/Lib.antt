pub mod Cancelling
pub mod Edges
pub mod Walks
