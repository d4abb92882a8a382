pub mod Faults
pub mod Interpreter
