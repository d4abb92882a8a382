pub mod Crash
pub mod Disks
pub mod Follows
pub mod Known
pub mod Pairs
pub mod Past
pub mod StoreUse
pub mod Streams
