pub mod CacheFault
pub mod Ending
pub mod FaultLine
pub mod ProgramFault
pub mod Row
pub mod Status
pub mod Usage
