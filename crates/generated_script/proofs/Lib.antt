pub mod StateLemmas
pub mod GridLemmas
