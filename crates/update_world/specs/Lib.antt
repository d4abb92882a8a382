pub mod Disks
pub mod Kept
pub mod Turns
pub mod Worlds
