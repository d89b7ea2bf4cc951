pub mod Embedded
pub mod Laws
