pub mod Children
pub mod FolderRows
mod Folders
pub mod FoundIn
mod FoundOnce
mod LinkRows
pub mod Unread
pub mod WantedFiles
