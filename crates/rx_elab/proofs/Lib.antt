pub mod Through
