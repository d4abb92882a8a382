pub mod Faults
pub mod Files
pub mod Images
pub mod Run
pub mod Sample
pub mod Text
pub mod Updates
