pub mod Drives
pub mod Values
