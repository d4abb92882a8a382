pub mod Faults
pub mod Samples
