pub mod Alike
pub mod Found
pub mod Grown
pub mod Looked
