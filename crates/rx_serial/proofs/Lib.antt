pub mod Finished
pub mod Left
pub mod OneBuffer
pub mod OneRefusal
pub mod Owned
pub mod Refusing
pub mod Results
pub mod Walking
