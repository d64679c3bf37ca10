pub mod Contexts
pub mod Plan
pub mod Reading
pub mod Slots
pub mod Steps
