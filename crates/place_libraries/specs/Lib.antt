pub mod Best
pub mod Libraries
pub mod Library
pub mod OneText
pub mod Pick
pub mod Rows
pub mod Sonames
