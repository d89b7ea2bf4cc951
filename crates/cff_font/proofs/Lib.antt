mod Turns
mod KeptLemmas
mod RealLemmas
mod StrokeLemmas
mod StrokeLong
mod StepLemmas
mod Shares
mod AllOrNone
pub mod PenBounds
pub mod MachineBounds
mod MachineLemmas
mod BlankGlyphs
pub mod TableFaults
