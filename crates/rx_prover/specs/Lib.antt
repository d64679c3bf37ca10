pub mod Walk
pub mod Trees
pub mod Answers
pub mod Walked
