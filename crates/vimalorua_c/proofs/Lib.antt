mod AlphaLemmas
mod AsBox
mod CopyLemmas
mod HandlesSent
mod NameLemmas
mod SeatLemmas
