pub mod Names
pub mod Refusals
pub mod Closure
pub mod Stop
