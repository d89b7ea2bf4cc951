pub mod Bounds
pub mod Colours
pub mod Forms
pub mod Streams
