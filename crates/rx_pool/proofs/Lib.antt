pub mod Numbers
pub mod Slots
pub mod Written
pub mod Parts
pub mod Taken
pub mod Made
pub mod Copied
