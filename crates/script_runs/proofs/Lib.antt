mod AskedFor
pub mod Completed
pub mod Crashed
mod EditedImage
pub mod HeldUpdate
pub mod ReliableCourse
mod InSlots
pub mod LoadedScript
pub mod NotUsage
pub mod OneUpdate
mod PartWritten
pub mod Rebuilt
pub mod RepairedScript
mod UpdateOf
