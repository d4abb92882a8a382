pub mod Heads
pub mod Windows
pub mod Endings
