pub mod Pams
