mod Left
mod Parts
pub mod Repaired
mod Rest
mod Resumed
pub mod Runs
mod SameNodes
mod Slots
mod Trees
mod Whole
