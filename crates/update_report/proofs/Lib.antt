mod ByPath
mod Neighbours
mod Numbers
pub mod Picked
pub mod SkipsOfFiles
