pub mod GrammarLemmas
pub mod ReadingLemmas
pub mod AskedLemmas
pub mod WordsLemmas
pub mod FirstWordLemmas
pub mod ReportLemmas
