mod NextTo
mod Endings
pub mod Libraries
mod Listed
mod Loading
mod Once
mod InParts
mod Tried
