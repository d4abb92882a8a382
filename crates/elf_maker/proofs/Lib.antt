pub mod Numbers
pub mod Steps
pub mod Lengths
pub mod Makeable
pub mod Reading
pub mod Named
pub mod Info
pub mod ReadBack
