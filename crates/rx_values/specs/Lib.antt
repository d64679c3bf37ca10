pub mod Valuation
pub mod Names
pub mod Reading
pub mod Answers
pub mod Printing
pub mod Laws
