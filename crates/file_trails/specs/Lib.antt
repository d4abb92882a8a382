pub mod Steps
pub mod Trail
