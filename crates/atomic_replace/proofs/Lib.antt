pub mod Calls
pub mod CallsOneByOne
pub mod CrashesOneByOne
pub mod OneByOne
mod Stages
