pub mod Agree
pub mod Alike
pub mod Children
mod Ends
mod Patterns
pub mod Places
pub mod Planned
pub mod Reading
mod Searches
mod There
mod Walks
