pub mod Finding
pub mod Glob
pub mod Matching
pub mod Patterns
pub mod Pieces
