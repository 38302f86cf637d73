pub mod Groups
pub mod Fates
