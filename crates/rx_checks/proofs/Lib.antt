pub mod FirstOnes
pub mod OneReport
pub mod Soundness
pub mod Kept
pub mod Judged
pub mod NextLines
pub mod Numbered
