pub mod Analyses
pub mod Table
