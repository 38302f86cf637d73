pub mod Profiles
pub mod Values
