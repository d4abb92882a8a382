pub mod Buffers
pub mod Cache
pub mod Checks
pub mod Printed
pub mod Views
