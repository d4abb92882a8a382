pub mod After
pub mod Index
pub mod Node
pub mod OneText
pub mod Paths
pub mod Runs
pub mod Tree
