pub mod Commands
pub mod Sample
