pub mod Cached
pub mod Looked
pub mod Programs
pub mod Texts
