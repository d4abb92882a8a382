mod Abis
pub mod Clear
pub mod Counted
mod Grouped
mod InStep
pub mod Joined
pub mod KindsAt
mod Linked
pub mod Links
pub mod Named
mod NewPaths
pub mod NoOtherFiles
pub mod OneText
pub mod Put
pub mod Rooms
mod Settled
mod Spots
pub mod Stays
mod Summed
pub mod Targets
mod WantedRows
