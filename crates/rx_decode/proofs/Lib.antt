pub mod Bits
pub mod Collected
pub mod Contents
pub mod Fitting
pub mod OneText
pub mod Own
pub mod Typed
