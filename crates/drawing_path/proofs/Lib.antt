pub mod ExistsLemmas
pub mod LawLemmas
pub mod RangeLemmas
pub mod ReadingLemmas
pub mod SplineLemmas
