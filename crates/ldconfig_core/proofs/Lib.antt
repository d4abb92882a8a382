pub mod LookedUp
pub mod OneText
pub mod OutcomeRows
pub mod PreparedTexts
pub mod WrittenSlots
pub mod SettledImage
