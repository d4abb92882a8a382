pub mod Conf
pub mod Patterns
pub mod View
