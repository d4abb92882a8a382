pub mod Extent
pub mod Unknown
