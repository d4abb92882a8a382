pub mod Faults
pub mod Language
pub mod Requests
pub mod Words
