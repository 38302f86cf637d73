pub mod Apart
pub mod InUnison
pub mod Ordered
