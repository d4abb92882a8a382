pub mod Entries
pub mod Looked
pub mod Planned
