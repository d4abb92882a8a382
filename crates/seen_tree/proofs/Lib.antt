pub mod Calls
pub mod Children
mod Found
pub mod Looked
pub mod Same
pub mod WithNode
