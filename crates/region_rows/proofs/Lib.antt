pub mod GrowthLemmas
pub mod JoinLemmas
pub mod RowLoops
pub mod WidenedLemmas
