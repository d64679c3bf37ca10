pub mod Arrows
pub mod Ends
pub mod Lookup
pub mod OnPath
pub mod Placing
pub mod Spans
pub mod Standing
pub mod Within
