pub mod Faults
pub mod Header
pub mod Identified
pub mod Layout
pub mod Reading
