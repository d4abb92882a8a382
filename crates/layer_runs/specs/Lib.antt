pub mod Command
pub mod Crash
pub mod Faults
pub mod Image
pub mod Left
pub mod Run
