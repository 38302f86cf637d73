pub mod TakesAway
pub mod Additions
pub mod Placed
