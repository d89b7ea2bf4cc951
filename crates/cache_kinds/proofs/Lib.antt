pub mod MixedLemmas
