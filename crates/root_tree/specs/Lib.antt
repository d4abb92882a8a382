pub mod ReadTree
pub mod SoFar
