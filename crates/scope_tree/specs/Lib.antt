pub mod Rows
pub mod Printed
pub mod Stack
