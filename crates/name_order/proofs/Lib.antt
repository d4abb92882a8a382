mod Alike
mod Contained
pub mod Numbers
pub mod Runs
pub mod Fronts
pub mod Total
pub mod Suffix
