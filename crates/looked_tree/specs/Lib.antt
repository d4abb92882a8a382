pub mod Halts
pub mod Looked
