pub mod RateLemmas
pub mod InstantLemmas
