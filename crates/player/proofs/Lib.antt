pub mod AddedLemmas
pub mod ChangeLemmas
pub mod FeedLemmas
pub mod ListLemmas
pub mod PlayerLemmas
pub mod PlayerSent
pub mod SceneLemmas
