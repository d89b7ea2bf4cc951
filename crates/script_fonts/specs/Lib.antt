pub mod Coding
pub mod Attachments
pub mod Steps
pub mod Laws
