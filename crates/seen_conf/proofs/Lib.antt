pub mod Conf
mod Items
pub mod Looked
pub mod Steps
