pub mod Crash
pub mod Failures
pub mod Folder
pub mod Found
pub mod MemFolder
pub mod Past
pub mod PastLaws
pub mod Whole
