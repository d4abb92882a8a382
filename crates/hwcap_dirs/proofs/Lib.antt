pub mod Children
mod Firsts
pub mod Reals
pub mod Spelled
