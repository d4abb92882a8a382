pub mod Alone
mod Folders
pub mod Joining
pub mod KindsAt
pub mod Last
pub mod Linked
pub mod NoNul
mod Walks
