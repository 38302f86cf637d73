pub mod Values
pub mod Roots
