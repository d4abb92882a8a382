pub mod Crash
pub mod Dirs
pub mod Moments
pub mod Walk
pub mod Whole
