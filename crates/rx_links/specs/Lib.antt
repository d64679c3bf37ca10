pub mod Counts
pub mod Cycle
pub mod Links
pub mod Positions
