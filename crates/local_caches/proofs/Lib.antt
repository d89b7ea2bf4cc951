pub mod ImageLemmas
pub mod KeyLemmas
pub mod PaintLemmas
pub mod Resting
pub mod TagLemmas
