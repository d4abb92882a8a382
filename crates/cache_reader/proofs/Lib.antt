pub mod Ends
pub mod Finding
pub mod Listed
pub mod Names
pub mod Putting
pub mod Ranges
pub mod Sound
