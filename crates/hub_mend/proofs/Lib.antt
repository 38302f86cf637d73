pub mod TakingAway
pub mod Cutting
pub mod Appending
