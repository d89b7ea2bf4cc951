pub mod WordLemmas
pub mod ColumnLemmas
pub mod BoxLemmas
pub mod DrawLemmas
