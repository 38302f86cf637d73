pub mod Inconsistent
pub mod Ordered
pub mod Slots
