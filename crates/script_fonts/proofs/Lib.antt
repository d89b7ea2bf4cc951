pub mod Walk
pub mod ReadBack
pub mod Lengths
