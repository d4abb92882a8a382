pub mod KeptAnalyses
pub mod Opened
pub mod Opens
pub mod ReadOn
pub mod ReadOne
pub mod Stamps
pub mod Truth
pub mod Unread
