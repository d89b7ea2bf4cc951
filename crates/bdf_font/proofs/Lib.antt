pub mod Answering
pub mod BitmapFonts
pub mod Faults
pub mod FileLemmas
pub mod Fronts
pub mod Given
pub mod Likes
pub mod OutlineGlyphs
pub mod PixelLemmas
pub mod PlaceLemmas
pub mod ReadLemmas
pub mod States
pub mod Walk
pub mod SetLemmas
pub mod SetLaws
mod NearestFonts
mod OutlineLists
