pub mod FrameImages
