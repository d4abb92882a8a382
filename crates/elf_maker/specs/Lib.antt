pub mod Fields
pub mod Texts
pub mod Made
pub mod Parts
