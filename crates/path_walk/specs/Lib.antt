pub mod Files
pub mod Names
pub mod Rest
pub mod Stops
pub mod Walk
