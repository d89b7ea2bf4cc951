pub mod LineExistence
pub mod LookExistence
pub mod ViewExistence
pub mod ShiftExistence
pub mod ShownExistence
pub mod PictureExistence
pub mod SomeEvents
