pub mod Form
pub mod App
pub mod Read
pub mod Words
pub mod Names
pub mod Numbers
