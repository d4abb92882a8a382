pub mod Adopted
pub mod Aux
pub mod Edit
pub mod Faults
pub mod Manifest
pub mod Reading
pub mod Session
