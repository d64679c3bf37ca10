pub mod Faults
pub mod Shelf
pub mod Memory
pub mod Entries
