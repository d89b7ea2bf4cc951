pub mod CoverLemmas
pub mod ExtentLemmas
pub mod ReachLemmas
pub mod RowLemmas
pub mod RowSums
pub mod SampleLemmas
pub mod SpanLemmas
pub mod StepLemmas
