pub mod Files
pub mod Patterns
pub mod View
