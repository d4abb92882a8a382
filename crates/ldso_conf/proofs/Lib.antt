pub mod Asked
pub mod CommandLine
mod Files
pub mod Items
mod Looking
mod Uses
mod Visiting
mod Whole
