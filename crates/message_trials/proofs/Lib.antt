pub mod Counting
pub mod Elaborated
pub mod Going
pub mod Growing
