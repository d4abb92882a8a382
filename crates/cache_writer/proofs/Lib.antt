mod Accepted
pub mod Adding
mod Back
mod Bounds
mod Joining
mod Laying
mod Members
mod ReadBack
mod Sections
mod Sorted
mod TextsAt
