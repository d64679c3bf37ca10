pub mod Chains
pub mod Leading
pub mod Returning
pub mod Searching
