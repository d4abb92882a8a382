pub mod Faults
pub mod Finding
pub mod Opened
pub mod Sonames
pub mod Tree
