pub mod Numbered
pub mod Rounds
