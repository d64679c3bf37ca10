pub mod Places
mod Setting
