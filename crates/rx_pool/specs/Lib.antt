pub mod Pool
pub mod Rooms
pub mod Lent
