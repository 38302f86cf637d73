pub mod Stepped
pub mod Walked
