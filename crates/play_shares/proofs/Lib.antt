pub mod FeederLines
pub mod Parts
pub mod InstantLemmas
pub mod AllOffers
pub mod RoundPlaces
