pub mod Above
pub mod AllOfChild
pub mod Below
pub mod Clear
pub mod FoundNodes
mod Fronts
pub mod Index
pub mod Kept
pub mod KindAt
pub mod Listed
pub mod Names
pub mod OneMore
mod OneText
pub mod Order
pub mod Prefixes
pub mod Rising
pub mod Runs
