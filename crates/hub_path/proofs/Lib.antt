pub mod PathFacts
pub mod PathTexts
