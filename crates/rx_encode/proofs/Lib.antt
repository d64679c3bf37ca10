mod Escapes
pub mod OneAnswer
mod Printed
pub mod RoundTrip
pub mod Valued
mod Walked
