pub mod Places
pub mod Puts
