pub mod FirstNamed
pub mod Lines
pub mod Listing
pub mod MadePaths
