pub mod Agreement
pub mod DrawLaws
pub mod ShownLemmas
pub mod PlacedLemmas
pub mod PlanLemmas
pub mod AlikeLemmas
pub mod ShiftLemmas
