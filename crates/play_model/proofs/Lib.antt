pub mod Labels
pub mod JoinedPasses
pub mod FeedLaws
pub mod Feeds
pub mod Counts
pub mod SettledLaws
pub mod TimeLaws
pub mod ChunkLengths
pub mod Shares
pub mod Rounds
pub mod MoreTimes
mod Pixmaps
