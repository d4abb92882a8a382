mod Calls
mod Halts
mod Lists
pub mod Loads
