pub mod Acyclic
pub mod Gathering
pub mod Within
