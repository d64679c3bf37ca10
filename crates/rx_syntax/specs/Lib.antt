pub mod Bytes
pub mod Laws
pub mod Marks
pub mod Numbers
pub mod Rules
pub mod Text
