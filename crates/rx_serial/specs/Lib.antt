pub mod Filling
pub mod Laws
pub mod Rooms
pub mod Unfit
