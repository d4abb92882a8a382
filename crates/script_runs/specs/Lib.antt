pub mod Batch
pub mod Course
pub mod Crash
pub mod Faults
pub mod Left
pub mod Run
pub mod Stored
pub mod UpdateCommand
