pub mod BitLemmas
pub mod BitExamples
pub mod Ring
pub mod Sums
