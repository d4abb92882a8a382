pub mod NextTo
pub mod Decoded
pub mod Escaping
pub mod FullWords
pub mod Names
pub mod Numbers
pub mod Places
pub mod Tokens
