pub mod Limits
pub mod Roles
pub mod Offers
pub mod Stages
pub mod Asks
pub mod Parts
pub mod FrameImages
