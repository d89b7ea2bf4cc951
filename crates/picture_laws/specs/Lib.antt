pub mod BitmapSets
pub mod OnePicture
pub mod Laws
pub mod NearPictures
