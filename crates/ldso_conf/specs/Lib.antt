pub mod Endings
pub mod Lines
pub mod Looked
pub mod Reading
pub mod Steps
pub mod Visits
