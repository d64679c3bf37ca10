pub mod Counting
pub mod Messages
pub mod Soundness
pub mod Texts
