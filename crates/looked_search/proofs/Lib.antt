mod Added
mod Entries
mod Finds
mod GivenDirs
pub mod Opened
mod Reading
mod Smaller
mod TreeSeen
mod Winners
