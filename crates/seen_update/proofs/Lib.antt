pub mod Enough
pub mod Found
pub mod Grown
mod Opened
mod Reached
pub mod Stages
pub mod StagesRead
pub mod Update
