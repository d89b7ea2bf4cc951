mod BegunLemmas
mod BetweenLemmas
mod CarryLemmas
mod EdgeLemmas
mod InsideLemmas
mod OutsideLemmas
mod SortLemmas
mod SteadyLemmas
mod SweepLemmas
mod WalkLemmas
pub mod SignedLemmas
pub mod WindingLemmas
