pub mod Limits
pub mod Instants
pub mod Batches
pub mod Renderers
pub mod Rounds
pub mod Offers
