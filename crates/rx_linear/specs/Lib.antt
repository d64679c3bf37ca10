pub mod Divisors
pub mod Rows
pub mod Systems
pub mod Joining
pub mod Units
pub mod Steps
pub mod Cells
