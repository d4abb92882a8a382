mod Texts
pub mod Whole
