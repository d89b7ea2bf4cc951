mod Copied
pub mod Equal
pub mod BoxLemmas
pub mod CoverLemmas
pub mod DrawnLemmas
pub mod EdgeLemmas
pub mod LeastLemmas
pub mod MaskLemmas
pub mod OutlineLemmas
pub mod PlanKeyLemmas
pub mod ReachLemmas
pub mod RegionLemmas
pub mod RunLemmas
pub mod SampleLemmas
pub mod TrimLemmas
pub mod UnwidenedLemmas
pub mod ValueLemmas
pub mod WidenedLemmas
