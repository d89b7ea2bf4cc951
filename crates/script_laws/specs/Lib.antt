pub mod Laws
pub mod GeneratedLaws
