pub mod Agreeing
pub mod Copied
pub mod Named
mod Rows
pub mod Unread
