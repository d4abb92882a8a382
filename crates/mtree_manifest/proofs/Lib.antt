pub mod Counting
pub mod Goods
pub mod Keywords
pub mod Progressing
pub mod RoundTrip
pub mod Opening
pub mod Spelling
mod Singles
