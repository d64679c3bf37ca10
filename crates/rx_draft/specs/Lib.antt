pub mod Drafts
pub mod Puts
pub mod Seals
pub mod Steps
