pub mod AnswerLemmas
pub mod GlyphLemmas
pub mod KeyLemmas
pub mod PartLemmas
pub mod SumLemmas
