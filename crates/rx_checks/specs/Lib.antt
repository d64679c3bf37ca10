pub mod Laws
pub mod Lines
pub mod ReachedPath
pub mod Reports
pub mod Steps
pub mod Told
pub mod Verdicts
