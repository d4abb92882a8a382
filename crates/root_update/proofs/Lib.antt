mod Again
mod AsImage
pub mod Checked
pub mod Loaded
mod Made
pub mod Plans
mod Reopened
mod Repair
mod Written
