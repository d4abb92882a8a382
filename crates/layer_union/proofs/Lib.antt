mod Adding
mod Children
mod Dots
mod Layering
mod Lists
mod Lowest
mod Marked
pub mod OneUnion
mod Paths
mod Trees
mod Upward
