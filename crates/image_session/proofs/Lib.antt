mod Loading
mod Readings
pub mod ReadSlots
mod Removing
