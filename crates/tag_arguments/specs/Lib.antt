pub mod Cuts
pub mod Laws
pub mod Names
pub mod Numbers
