pub mod Rates
pub mod Instants
