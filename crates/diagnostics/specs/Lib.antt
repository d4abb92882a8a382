pub mod Notes
pub mod Start
