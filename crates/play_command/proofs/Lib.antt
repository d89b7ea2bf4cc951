pub mod ReadLemmas
pub mod PlayLemmas
pub mod SelftestLemmas
pub mod TextLemmas
pub mod RunLemmas
