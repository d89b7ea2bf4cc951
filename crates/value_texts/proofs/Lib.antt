pub mod TextLemmas
pub mod RangeLemmas
