pub mod Rows
pub mod Stepping
pub mod Takers
