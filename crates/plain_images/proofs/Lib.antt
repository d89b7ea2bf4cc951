pub mod ByteLemmas
pub mod ClipLemmas
pub mod FrameLemmas
pub mod ListingLemmas
pub mod PaintLemmas
pub mod PaneLemmas
pub mod TintLemmas
