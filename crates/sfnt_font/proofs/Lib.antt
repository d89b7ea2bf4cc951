mod Steps
mod InOrder
mod OrderLemmas
pub mod Refusals
pub mod CodeLemmas
mod FaultBytes
pub mod RangeLemmas
mod FirstFault
pub mod ReadLemmas
