pub mod Entries
pub mod Examples
pub mod Greatest
pub mod Short
pub mod Statics
pub mod Within
