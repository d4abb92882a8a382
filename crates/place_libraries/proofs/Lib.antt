pub mod Among
pub mod Gathered
pub mod Named
pub mod NoOtherFiles
mod OneText
mod Spread
