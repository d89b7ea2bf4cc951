pub mod LawLemmas
pub mod LineLemmas
pub mod SeatLemmas
pub mod SeatSent
pub mod ShownLemmas
