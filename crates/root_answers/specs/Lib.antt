pub mod Answers
pub mod Check
pub mod Ending
pub mod Run
pub mod Update
