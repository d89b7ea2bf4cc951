pub mod ColourLemmas
pub mod PlaneLemmas
pub mod QuotientLemmas
