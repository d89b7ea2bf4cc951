pub mod PixelLemmas
pub mod BoxLemmas
pub mod RowLemmas
pub mod CropLemmas
pub mod EndLemmas
pub mod PutLemmas
pub mod ReelLemmas
pub mod LawLemmas
