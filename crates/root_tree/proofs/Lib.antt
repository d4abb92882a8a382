mod Added
mod Directly
mod Known
mod Listing
mod Names
mod Parts
pub mod Readings
mod Sees
