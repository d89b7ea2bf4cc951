pub mod HeldLemmas
pub mod OneLemmas
