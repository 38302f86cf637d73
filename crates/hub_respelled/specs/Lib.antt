pub mod Case
pub mod Caseless
pub mod Members
pub mod Respelled
pub mod examples
