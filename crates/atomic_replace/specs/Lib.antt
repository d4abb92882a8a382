pub mod OneByOne
pub mod Order
pub mod Replace
pub mod Step
