pub mod Language
pub mod Values
pub mod Words
