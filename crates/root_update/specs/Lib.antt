pub mod Check
pub mod Faults
pub mod Loading
pub mod Made
pub mod Repair
pub mod Update
