pub mod Apply
pub mod Marks
pub mod Plan
pub mod Settled
pub mod Survey
