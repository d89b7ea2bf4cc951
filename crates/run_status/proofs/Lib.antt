pub mod AskedLemmas
pub mod FontLemmas
pub mod FetchLemmas
pub mod OwnLemmas
pub mod DecideLemmas
pub mod ExistLemmas
pub mod SetLemmas
