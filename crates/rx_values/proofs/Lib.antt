pub mod Ascending
pub mod Choices
pub mod Judging
pub mod Members
pub mod Reread
pub mod Arranged
pub mod Kept
