mod Bests
pub mod Fit
mod FolderCounts
pub mod InOneOrder
pub mod Led
mod LinksOf
mod Merged
pub mod NoOtherFiles
pub mod OneEach
mod Others
mod Ranks
pub mod Single
mod Sorts
