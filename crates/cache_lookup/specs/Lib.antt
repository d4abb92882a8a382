pub mod Abis
pub mod Probing
pub mod Scan
pub mod Searches
pub mod Sorted
