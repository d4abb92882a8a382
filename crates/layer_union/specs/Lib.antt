pub mod Hiding
pub mod Steps
pub mod Union
pub mod Whiteouts
