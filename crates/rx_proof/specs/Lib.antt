pub mod Queries
pub mod Acceptance
pub mod Room
pub mod Open
