pub mod Encoded
pub mod Laws
pub mod Walks
