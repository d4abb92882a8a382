mod Asking
mod Choosing
pub mod Completing
mod Listing
