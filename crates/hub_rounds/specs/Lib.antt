pub mod Lines
pub mod Named
pub mod Numbered
pub mod Rounds
pub mod Unverified
pub mod laws
pub mod examples
