pub mod Interpreters
pub mod Needed
pub mod Printed
