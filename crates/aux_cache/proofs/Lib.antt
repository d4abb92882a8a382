pub mod Accepted
mod Adding
pub mod Back
mod ByIds
mod Damage
mod DefectCodes
pub mod Found
mod Joining
pub mod Sorted
mod StringsAt
