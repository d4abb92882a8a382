pub mod CacheText
pub mod Joined
pub mod Numbers
pub mod ReadBack
