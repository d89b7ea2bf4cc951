pub mod CutLemmas
pub mod LongestLemmas
pub mod NameLemmas
pub mod NumberLemmas
