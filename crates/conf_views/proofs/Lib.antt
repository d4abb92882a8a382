pub mod Each
pub mod Files
pub mod Patterns
pub mod Looks
