pub mod Files
pub mod Opened
pub mod Reading
pub mod Info
pub mod Stamped
pub mod State
