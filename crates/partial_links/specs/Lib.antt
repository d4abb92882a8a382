pub mod Left
pub mod Partial
pub mod Resumed
