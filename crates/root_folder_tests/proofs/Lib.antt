pub mod LeftAlone
