pub mod Pictures
pub mod ShownEvents
pub mod Alike
pub mod AlphaPictures
