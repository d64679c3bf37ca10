pub mod Exclusion
pub mod Equations
pub mod Places
pub mod Opens
pub mod Weights
pub mod Nodes
