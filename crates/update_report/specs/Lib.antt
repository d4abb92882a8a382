pub mod ByPath
pub mod Lines
pub mod Report
pub mod Skips
pub mod Twins
