pub mod NearLemmas
pub mod LayerLemmas
pub mod PictureLemmas
pub mod RowLemmas
pub mod TintLemmas
pub mod TileLemmas
