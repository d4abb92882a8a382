pub mod Digits
pub mod LibraryName
pub mod Numbers
pub mod Order
pub mod Part
