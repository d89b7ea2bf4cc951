pub mod Limits
pub mod FrameViews
pub mod FrameScales
