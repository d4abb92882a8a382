pub mod Folder
pub mod Head
pub mod Machines
pub mod Paths
pub mod Places
pub mod Temporary
