pub mod Fields
pub mod Firsts
pub mod Parts
pub mod Stand
pub mod Through
pub mod Types
