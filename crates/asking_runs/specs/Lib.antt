pub mod AskCache
pub mod Cache
pub mod Complete
pub mod Faults
pub mod Listings
pub mod Lookup
pub mod Print
pub mod Resolve
