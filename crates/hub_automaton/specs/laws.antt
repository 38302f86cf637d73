pub mod AddedInTurn
pub mod Adding
pub mod ClassSet
